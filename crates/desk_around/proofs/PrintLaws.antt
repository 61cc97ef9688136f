-- What an output took, one text behind another.
use Rattle.std.proofs.Common.{◌≡◌, ◌∙◌, ℕ, ◌<◌, ◌≤◌, ◌+◌, List, [], ◌∷◌, ◌++◌, Option, Some, None, append_assoc, ap, refl, sym, subst, take, get_or, length}
use Rattle.std.proofs.lemmas.Grind.{flat_map-append}
use Rattle.std.proofs.lemmas.List.{append-nil, take_all, take_more}
use Rattle.std.specs.List.{flat_map}
use Rattle.express_words.specs.Streams.{Took}
use Rattle.desk_around.specs.Printing.{Prints, TellsMet, met_line}

pub took_nothing : (old : Option (List ℕ)) → Took old old []
took_nothing None = tt
took_nothing (Some bytes) = sym (append-nil bytes)

pub took_both : (old mid new : Option (List ℕ)) (front text : List ℕ) → Took old mid front → Took mid new text
    → Took old new (front ++ text)
took_both None mid new front text one two = tt
took_both (Some old) None new front text one two = absurd one
took_both (Some old) (Some mid) None front text one two = absurd two
took_both (Some old) (Some mid) (Some new) front text one two =
    two ∙ ap (λ bytes. bytes ++ text) one ∙ append_assoc old front text

-- ---- letters that met

pub tells_before : (text more : List ℕ) → TellsMet text → TellsMet (text ++ more)
tells_before text more m = record {
  name = m.name;
  before = m.before;
  behind = m.behind ++ more;
  is = ap (λ t. t ++ more) m.is ∙ append_assoc m.before (met_line m.name ++ m.behind) more
      ∙ ap (λ t. m.before ++ t) (append_assoc (met_line m.name) m.behind more);
}

pub tells_behind : (front text : List ℕ) → TellsMet text → TellsMet (front ++ text)
tells_behind front text m = record {
  name = m.name;
  before = front ++ m.before;
  behind = m.behind;
  is = ap (λ t. front ++ t) m.is ∙ sym (append_assoc front m.before (met_line m.name ++ m.behind));
}

pub tells_line : (name behind : List ℕ) → TellsMet (met_line name ++ behind)
tells_line name behind = record { name = name; before = []; behind = behind; is = refl }

-- what was printed stays printed
pub prints_before : (old mid new : Option (List ℕ)) (more : List ℕ) → Prints TellsMet old mid → Took mid new more
    → Prints TellsMet old new
prints_before old mid new more p next =
    (p.0 ++ more, tells_before p.0 more p.1, took_both old mid new p.0 more p.2 next)

-- ---- one text of each item behind another

pub said_more : {A : Type 0} (f : A → List ℕ) (all : List A) (i : ℕ) (e : A) (old mid new : Option (List ℕ)) → i < length all
    → e ≡ get_or all i e → Took old mid (flat_map f (take i all)) → Took mid new (f e) → Took old new (flat_map f (take (i + 1) all))
said_more {A} f all i e old mid new within at before one =
    let more : take (i + 1) all ≡ take i all ++ e ∷ [] =
    take_more all i e within ∙ ap (λ (x : A). take i all ++ x ∷ []) (sym at) in
    let text : flat_map f (take (i + 1) all) ≡ flat_map f (take i all) ++ f e =
    ap (flat_map f) more ∙ flat_map-append f (take i all) (e ∷ []) ∙ ap (λ (t : List ℕ). flat_map f (take i all) ++ t) (append-nil (f e)) in
    subst (λ (t : List ℕ). Took old new t) (sym text) (took_both old mid new (flat_map f (take i all)) (f e) before one)

pub said_all : {A : Type 0} (f : A → List ℕ) (all : List A) (i : ℕ) (old new : Option (List ℕ)) → length all ≤ i
    → Took old new (flat_map f (take i all)) → Took old new (flat_map f all)
said_all {A} f all i old new few said = subst (λ (l : List A). Took old new (flat_map f l)) (take_all i all few) said

pub took_three : (front middle text : List ℕ) (old one two new : Option (List ℕ)) → Took old one front
    → Took one two middle → Took two new text → Took old new (front ++ (middle ++ text))
took_three front middle text old one two new a b c =
    took_both old one new front (middle ++ text) a (took_both one two new middle text b c)
