-- What an answer of several steps says of each step.
use Rattle.std.proofs.Common.{◌≡◌, ℕ, Bool, true, false, Option, Some, None, Result, Ok, Err, refl}
use Rattle.sg_model.specs.declared.fault.Place.{Place}
use Rattle.sg_model.specs.declared.fault.GameFault.{GameFault}
use Rattle.sg_model.specs.Steps.{◌>>=◌}
use Rattle.sg_format.specs.Steps.{needed, passed}

-- a step that gave a value, with which the next one gave the answer
pub after : {A B Goal : Type 0} (step : Result A GameFault) {next : A → Result B GameFault} {answer : B} → (step >>= next) ≡ Ok answer
    → ((x : A) → step ≡ Ok x → next x ≡ Ok answer → Goal) → Goal
after (Ok x) h k = k x refl h
after (Err e) h k = absurd (cc)

-- a test that passed
pub after_test : {B Goal : Type 0} (test : Bool) (reason : ℕ) (place : Place) {rest : Result B GameFault} {answer : B} → (passed test reason place >>= (λ x. rest)) ≡ Ok answer
    → (test ≡ true → rest ≡ Ok answer → Goal) → Goal
after_test true reason place h k = k refl h
after_test false reason place h k = absurd (cc)

pub passed_is : (test : Bool) (reason : ℕ) (place : Place) (x : Unit {0}) → passed test reason place ≡ Ok x → test ≡ true
passed_is true reason place x h = refl
passed_is false reason place x h = absurd (cc)

pub needed_is : {A : Type 0} (o : Option A) (reason : ℕ) (place : Place) (x : A) → needed o reason place ≡ Ok x → o ≡ Some x
needed_is (Some y) reason place x h = cc
needed_is None reason place x h = absurd (cc)
