-- What is written at an end, by what may come.
use Rattle.std.proofs.Common.{◌≡◌, ◌≢◌, ℕ, List, ◌++◌, Option, append_assoc, subst, sym, ap, ◌∙◌, arith}
use Rattle.express_words.specs.Causes.{Rose}
use Rattle.express_words.specs.Streams.{Took, TookPrefix}
use Rattle.client_run.proofs.PassedLaws.{took_both}
use Rattle.express_texts.specs.declared.fault.TextFault.{TextFault}
use Rattle.express_cli.specs.Ends.{FaultMay, Prints, PrintsBy, Said}
use Rattle.express_cli.specs.Around.{Seen}
use Rattle.express_cli.specs.declared.ends.End.{End}
use Rattle.express_cli.specs.declared.ends.End.TheVariants as ends

pub took_as : (old new : Option (List ℕ)) (text other : List ℕ) → text ≡ other → Took old new text → Took old new other
took_as old new text other same took = let P : List ℕ → Type 0 = λ t. Took old new t in subst P same took

-- where more may come
pub more_may : (May Could : End → List ℕ → Type 0) (old new : Option (List ℕ)) (before now : ℕ) (end : End)
    → ((e : End) (text : List ℕ) → May e text → Could e text) → PrintsBy May old new before now end → PrintsBy Could old new before now end
more_may May Could old new before now end f h = grind arith

-- where the text that was said is one that may come
pub said : (May : End → List ℕ → Type 0) (old new : Option (List ℕ)) (before now : ℕ) (end result : End) (text : List ℕ)
    → May end text → PrintsBy (Said end text) old new before now result → PrintsBy May old new before now result
said May old new before now end result text may h =
    more_may (Said end text) May old new before now result (λ e t same. rw (same.0, same.1) may) h

-- the sink failed only where that is told
pub sink_stays : (May : End → List ℕ → Type 0) (old new : Seen) (end : End)
    → Prints May old new end → end ≢ ends.WriteFault → new.faults ≡ old.faults
sink_stays May old new end h other = grind arith

-- where it didn't fail, a text that may come was written
pub written : (May : End → List ℕ → Type 0) (old new : Seen) (end : End) → Prints May old new end → ¬ Rose old.faults new.faults
    → (text : List ℕ) × May end text × Took old.written new.written text × (end ≢ ends.WriteFault)
written May old new end h sink = grind arith

-- where nothing was written before
pub unmoved : (May : End → List ℕ → Type 0) (old mid new : Seen) (end : End) → mid ≡ old → Prints May mid new end → Prints May old new end
unmoved May old mid new end same h = let From : Seen → Type 0 = λ s. Prints May s new end in subst From same h

prefix_behind : (old mid new : Option (List ℕ)) (front text : List ℕ) → Took old mid front → TookPrefix mid new text → TookPrefix old new (front ++ text)
prefix_behind old mid new front text one two =
    (front ++ two.0, two.1, ap (λ bytes. front ++ bytes) two.2 ∙ sym (append_assoc front two.0 two.1), took_both old mid new front two.0 one two.3)

-- what comes after a text that was taken is written behind it
pub follows : (Then May : End → List ℕ → Type 0) (old mid new : Seen) (end : End) (front : List ℕ)
    → Took old.written mid.written front → mid.faults ≡ old.faults → ((e : End) (text : List ℕ) → Then e text → May e (front ++ text))
    → Prints Then mid new end → Prints May old new end
follows Then May old mid new ends.WriteFault front took same f h =
    let Rises : ℕ → Type 0 = λ n. Rose n new.faults in
    (subst Rises same h.0, (h.1.0, front ++ h.1.1, f _ _ h.1.2, prefix_behind old.written mid.written new.written front h.1.1 took h.1.3))
follows Then May old mid new _ front took same f h =
    (front ++ h.0, f _ _ h.1, took_both old.written mid.written new.written front h.0 took h.2, h.3 ∙ same)

-- what was taken stays out where the sink fails behind it
pub out_behind : (May : End → List ℕ → Type 0) (old mid new : Seen) (end : End) (text : List ℕ) → Took old.written mid.written text
    → Prints May mid new end → end ≡ ends.WriteFault → (more : List ℕ) × Took old.written new.written (text ++ more)
out_behind May old mid new end text took h failed = grind (arith, took_both)

-- what is said of a fault of a text is none of the input's
pub fault_reads : (f : TextFault) (old new : Seen) (end : End) → Prints (FaultMay f) old new end → end ≢ ends.ReadFault
fault_reads f old new end h = grind arith
