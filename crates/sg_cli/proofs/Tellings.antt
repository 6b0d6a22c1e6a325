-- What is told of a refusal, from what a put of its line took.
use Rattle.std.proofs.Common.{◌≡◌, ℕ, List, length, Option, Result, Ok, Err, sym, subst, arith, OnOk, OnErr}
use Rattle.std.proofs.lemmas.List.{take_all}
use Rattle.sg_shelf.specs.Faults.{HasRisen, HasNotRisen}
use Rattle.sg_shelf.specs.States.{SinkState}
use Rattle.sg_shelf.specs.Taken.{Takes, TakesFront}
use Rattle.sg_shelf.specs.declared.sink.SinkError.{SinkError}
use Rattle.sg_cli.specs.Refusals.{line_of}
use Rattle.sg_cli.specs.Runs.{TellsRefusal}
use Rattle.sg_cli.specs.declared.refusal.Refusal.{Refusal}

risen_not : (before after : ℕ) → HasRisen before after → HasNotRisen before after → ⊥
risen_not before after h k = omega (arith, h, k)

whole_front : (before after : Option (List ℕ)) (piece : List ℕ) → Takes before after piece → TakesFront before after piece
whole_front before after piece h = (length piece, subst (λ (p : List ℕ). Takes before after p) (sym (take_all (length piece) piece (omega arith))) h)

pub told : (before after : SinkState) (refusal : Refusal) (piece : List ℕ) (r : Result (Unit {0}) SinkError)
    → piece ≡ line_of refusal → OnOk r (Takes before.bytes after.bytes piece) → OnErr r (TakesFront before.bytes after.bytes piece) → OnErr r (HasRisen before.faults after.faults)
    → TellsRefusal before after refusal
told before after refusal piece (Ok x) is taken front risen =
    record {
      whole = λ calm. subst (λ (p : List ℕ). Takes before.bytes after.bytes p) is taken;
      front = subst (λ (p : List ℕ). TakesFront before.bytes after.bytes p) is (whole_front before.bytes after.bytes piece taken);
    }
told before after refusal piece (Err e) is taken front risen =
    record { whole = λ calm. absurd (risen_not before.faults after.faults risen calm); front = subst (λ (p : List ℕ). TakesFront before.bytes after.bytes p) is front }
