-- News that are told one behind another.
use Rattle.std.proofs.Common.{◌≡◌, ◌∙◌, ◌⊎◌, inl, inr, ◌+◌, ◌<◌, ◌≤◌, ◌||◌, ℕ, Bool, true, false, cond, eqb}
use Rattle.std.proofs.Common.{List, [], ◌∷◌, ◌++◌, Option, length, map, take, drop, get_or, append_assoc, not}
use Rattle.std.proofs.Common.{Result, Ok, Err, refl, sym, ap, subst}
use Rattle.std.specs.Prelude.{OnErr, OnOk}
use Rattle.std.specs.List.{list_any}
use Rattle.std.proofs.lemmas.Bool.{cases_Bool}
use Rattle.std.proofs.lemmas.List.{length-map, append-nil, drop_more, map-append, take-append-drop}
use Rattle.std.proofs.lemmas.List.{take_all, take_more}
use Rattle.std.proofs.lemmas.List.Folds.{list_any-append}
use Rattle.express_words.specs.Streams.{Took, TookPrefix}
use Rattle.desk_lines.specs.Letters.{met_line}
use Rattle.kept_ledger.specs.declared.entry.Handling.{Handling}
use Rattle.kept_ledger.specs.declared.entry.Marked.{Marked}
use Rattle.kept_ledger.specs.Ledgers.{LedgerState}
use Rattle.desk_around.specs.Printing.{Prints}
use Rattle.desk_around.proofs.PrintLaws.{took_both, took_nothing}
use Rattle.owner_mail.specs.declared.news.News.{News}
use Rattle.owner_mail.specs.declared.showing.NewsTold.{NewsTold}
use Rattle.owner_mail.specs.Mail.{AreMails, NamedMail, is_met}
use Rattle.owner_mail.specs.News.{Arrived, Item, Unopened, all_news, letter_news, marked_by, marks_after}
use Rattle.owner_mail.specs.News.{plain_news, unopened_news}
use Rattle.owner_mail.specs.Telling.{Each, IsFirstOf, PrintsFirst, TellsAll, TellsItem, TellsMet, TellsNext}
use Rattle.owner_mail.specs.Telling.{TellsFirst, TellsNew, TellsSome, Way, handling_by, none, then}

-- ---- one more

pub each_push : {A : Type 0} (One : A → List ℕ → Type 0) (xs : List A) (x : A) (text one : List ℕ)
    → Each One xs text → One x one → Each One (xs ++ x ∷ []) (text ++ one)
each_push One [] x text one none is =
    subst (λ (t : List ℕ). Each One (x ∷ []) t) (append-nil one) (then x [] one [] is none)
each_push One (y ∷ ys) x text one (then _ _ first more here behind) is =
    subst (λ (t : List ℕ). Each One (y ∷ ys ++ x ∷ []) t) (sym (append_assoc first more one))
    (then y (ys ++ x ∷ []) first (more ++ one) here (each_push One ys x more one behind is))

pub marks_push : (handling : Handling) (items : List Item) (one : Item) (marks : List Marked)
    → marks_after handling (items ++ one ∷ []) marks ≡ marked_by handling one (marks_after handling items
    marks)
marks_push handling [] one marks = refl
marks_push handling (x ∷ items) one marks = marks_push handling items one (marked_by handling x marks)

abbrev with_marks : LedgerState → List Marked → LedgerState
with_marks s marks = record s { marks = marks }

pub told_none : (way : Way) (s : LedgerState) (old : Option (List ℕ)) → TellsAll way [] s s old old
told_none way s old = record { text = []; each = none; took = took_nothing old; noted = refl }

pub told_push : (way : Way) (items : List Item) (one : Item) (s mid now : LedgerState)
    (old cur new : Option (List ℕ)) → TellsAll way items s mid old cur → Prints (TellsItem way one) cur new
    → now ≡ record mid { marks = marked_by (handling_by way) one mid.marks }
    → TellsAll way (items ++ one ∷ []) s now old new
told_push way items one s mid now old cur new t p noted = record {
  text = t.text ++ p.0;
  each = each_push (TellsItem way) items one t.text p.0 t.each p.1;
  took = took_both old cur new t.text p.0 t.took p.2;
  noted = noted ∙ ap (λ (x : LedgerState). with_marks x (marked_by (handling_by way) one x.marks)) t.noted
      ∙ ap (with_marks s) (sym (marks_push (handling_by way) items one s.marks));
}

-- ---- a slice of news, one after another

module _ {A : Type 0} (f : A → Item) (way : Way) (all : List A) (i : ℕ) (s mid now : LedgerState)
    (old cur new : Option (List ℕ)) where
  pub told_more : (x : A) → i < length all → x ≡ get_or all i x
      → TellsAll way (map f (take i all)) s mid old cur
      → Prints (TellsItem way (f x)) cur new
      → now ≡ record mid { marks = marked_by (handling_by way) (f x) mid.marks }
      → TellsAll way (map f (take (i + 1) all)) s now old new
  told_more x within at t p noted =
      let more : map f (take (i + 1) all) ≡ map f (take i all) ++ f x ∷ [] =
      ap (map f) (take_more all i x within ∙ ap (λ (a : A). take i all ++ a ∷ []) (sym at))
      ∙ map-append f (take i all) (x ∷ []) in
      subst (λ (items : List Item). TellsAll way items s now old new) (sym more)
      (told_push way (map f (take i all)) (f x) s mid now old cur new t p noted)

  pub told_stop : (x : A) → i < length all → x ≡ get_or all i x
      → TellsAll way (map f (take i all)) s mid old cur → PrintsFirst (TellsItem way (f x)) cur new
      → now ≡ mid → TellsSome way (map f all) s now old new
  told_stop x within at t p same = record {
    done = map f (take i all);
    rest = map f (drop i all);
    split = ap (map f) (sym (take-append-drop i all)) ∙ map-append f (take i all) (drop i all);
    front = t.text;
    each = t.each;
    noted = same ∙ t.noted;
    begun = p.0;
    next = subst (λ (l : List A). IsFirstOf (TellsNext way (map f l)) p.0)
        (sym (drop_more all i x within ∙ ap (λ (a : A). a ∷ drop (i + 1) all) (sym at))) p.1;
    took = took_both old cur new t.text p.0 t.took p.2;
  }

pub told_end : {A : Type 0} (f : A → Item) (way : Way) (all : List A) (i : ℕ) (s now : LedgerState)
    (old new : Option (List ℕ)) → length all ≤ i → TellsAll way (map f (take i all)) s now old new
    → TellsAll way (map f all) s now old new
told_end {A} f way all i s now old new few t =
    subst (λ (l : List A). TellsAll way (map f l) s now old new) (take_all i all few) t

-- ---- letters that met

either : (a b : Bool) → (a || b) ≡ true → (a ≡ true) ⊎ (b ≡ true)
either true b so = inl refl
either false b so = inr so

or_first : (a b : Bool) → a ≡ true → (a || b) ≡ true
or_first a b so = ap (λ (x : Bool). x || b) so

or_second : (a b : Bool) → b ≡ true → (a || b) ≡ true
or_second true b so = refl
or_second false b so = so

abbrev is_unopened : Item → Bool
is_unopened (Arrived m l) = false
is_unopened (Unopened m) = true

tells_before : (text more : List ℕ) → TellsMet text → TellsMet (text ++ more)
tells_before text more m = record {
  name = m.name;
  count = m.count;
  before = m.before;
  behind = m.behind ++ more;
  is = ap (λ t. t ++ more) m.is ∙ append_assoc m.before (met_line m.name m.count ++ m.behind) more
      ∙ ap (λ t. m.before ++ t) (append_assoc (met_line m.name m.count) m.behind more);
}

tells_behind : (front text : List ℕ) → TellsMet text → TellsMet (front ++ text)
tells_behind front text m = record {
  name = m.name;
  count = m.count;
  before = front ++ m.before;
  behind = m.behind;
  is = ap (λ t. front ++ t) m.is ∙ sym (append_assoc front m.before (met_line m.name m.count ++ m.behind));
}

item_tells : (way : Way) (item : Item) (text : List ℕ) → TellsItem way item text → is_unopened item ≡ true
    → TellsMet text
item_tells way (Arrived m l) text tells met = cc
item_tells way (Unopened m) text tells met = record {
  name = m.name;
  count = m.unopened;
  before = [];
  behind = [];
  is = tells ∙ sym (append-nil (met_line m.name m.unopened));
}

each_tells : (way : Way) (items : List Item) (text : List ℕ) → Each (TellsItem way) items text
    → list_any is_unopened items ≡ true → TellsMet text
each_tells way [] text none met = cc
each_tells way (x ∷ items) text (then _ _ one more here behind) met =
    elim (either (is_unopened x) (list_any is_unopened items) met) [
      | inl now ↦ tells_before one more (item_tells way x one here now)
      | inr later ↦ tells_behind one more (each_tells way items more behind later)
    ]

unopened_some : (m : NamedMail) → is_met m ≡ true → list_any is_unopened (unopened_news m) ≡ true
unopened_some m met = elim (cases_Bool (eqb m.unopened 0)) [
  | inl zero ↦ let wrong : not (eqb m.unopened 0) ≡ false = ap not zero in absurd (cc wrong)
  | inr some ↦ ap (λ (b : Bool). list_any is_unopened (cond b [] (Unopened m ∷ []))) some
]

news_met : (handling : Handling) (marks : List Marked) (mails : List NamedMail) → list_any is_met mails ≡ true
    → list_any is_unopened (all_news handling marks mails) ≡ true
news_met handling marks [] met = cc
news_met handling marks (m ∷ mails) met =
    let letters = letter_news handling marks m in
    let rest = all_news handling marks mails in
    list_any-append is_unopened (letters ++ unopened_news m) rest
    ∙ elim (either (is_met m) (list_any is_met mails) met) [
      | inl now ↦ or_first _ (list_any is_unopened rest)
          (list_any-append is_unopened letters (unopened_news m)
          ∙ or_second (list_any is_unopened letters) _ (unopened_some m now))
      | inr later ↦ or_second (list_any is_unopened (letters ++ unopened_news m)) _ (news_met handling
          marks mails later)
    ]

-- where letters met, what was told says so
pub told_met : (way : Way) (marks : List Marked) (mails : List NamedMail) (s now : LedgerState)
    (old new : Option (List ℕ)) → TellsAll way (all_news (handling_by way) marks mails) s now old new
    → list_any is_met mails ≡ true → Prints TellsMet old new
told_met way marks mails s now old new t met = (
  t.text,
  each_tells way (all_news (handling_by way) marks mails) t.text t.each
      (news_met (handling_by way) marks mails met),
  t.took,
)

-- ---- a text that is printed, and one that is cut off

pub on_ok : {T E P : Type 0} (r : Result T E) → P → OnOk r P
on_ok (Ok x) p = p
on_ok (Err e) p = tt

pub on_err : {T E P : Type 0} (r : Result T E) → P → OnErr r P
on_err (Ok x) p = tt
on_err (Err e) p = p

pub first_nothing : (Form : List ℕ → Type 0) (old : Option (List ℕ)) → PrintsFirst Form old old
first_nothing Form old = ([], inl refl, took_nothing old)

pub prints_whole : (Form : List ℕ → Type 0) (text said : List ℕ) (old new : Option (List ℕ)) → Form text
    → said ≡ text → Took old new said → Prints Form old new
prints_whole Form text said old new is same took = (
  text,
  is,
  subst (λ (t : List ℕ). Took old new t) same
      took,
)

pub first_whole : (Form : List ℕ → Type 0) (text said : List ℕ) (old new : Option (List ℕ)) → Form text
    → said ≡ text → Took old new said → PrintsFirst Form old new
first_whole Form text said old new is same took = (
  text,
  inr ([], subst Form (sym (append-nil text)) is),
  subst (λ (t : List ℕ). Took old new t) same took,
)

pub first_prefix : (Form : List ℕ → Type 0) (text said : List ℕ) (old new : Option (List ℕ)) → Form text
    → said ≡ text → TookPrefix old new said → PrintsFirst Form old new
first_prefix Form text said old new is same took =
    (took.0, inr (took.1, subst Form (sym same ∙ took.2) is), took.3)

-- ---- the news of all names

module _ (way : Way) (s now : LedgerState) (old new : Option (List ℕ)) (mails lent : List NamedMail)
    (news shown : List News) (are : AreMails s mails) (is : lent ≡ mails)
    (items : map plain_news news ≡ all_news (handling_by way) s.marks lent) (same : shown ≡ news) where
  these : map plain_news shown ≡ all_news (handling_by way) s.marks mails
  these = ap (map plain_news) same ∙ items ∙ ap (all_news (handling_by way) s.marks) is

  pub tells_new : (told : NewsTold) → TellsAll way (map plain_news shown) s now old new
      → told.any ≡ not (eqb (length shown) 0) → told.met ≡ list_any is_met lent
      → TellsNew way told s now old new
  tells_new told t any met = record {
    mails = mails;
    are = are;
    tells = subst (λ (l : List Item). TellsAll way l s now old new) these t;
    any = any ∙ ap (λ (n : ℕ). not (eqb n 0)) (sym (length-map shown plain_news))
        ∙ ap (λ (l : List Item). not (eqb (length l) 0)) these;
    met = met ∙ ap (list_any is_met) is;
  }

  pub tells_first : TellsSome way (map plain_news shown) s now old new → TellsFirst way s now old new
  tells_first t = inr (record {
    mails = mails;
    are = are;
    tells = subst (λ (l : List Item). TellsSome way l s now old new) these t;
  })

pub first_none : (way : Way) (s : LedgerState) (old : Option (List ℕ)) → TellsFirst way s s old old
first_none way s old = inl (refl, refl)

pub new_met : (way : Way) (told : NewsTold) (s now : LedgerState) (old new : Option (List ℕ))
    → TellsNew way told s now old new → told.met ≡ true → Prints TellsMet old new
new_met way told s now old new n so =
    told_met way s.marks n.mails s now old new n.tells (sym n.met ∙ so)
