-- Steps of a reading that give a value or the fault that is told of it.
use Rattle.std.proofs.Common.{◌≡◌, ◌∙◌, ℕ, Bool, true, false, ◌&&◌, Option, Some, None, Result, Ok, refl, ap}
use Rattle.sg_model.specs.declared.fault.Place.{Place}
use Rattle.sg_model.specs.declared.fault.GameFault.{GameFault}
use Rattle.sg_game.specs.Faults.{◌orelse◌, fault_unless}
use Rattle.sg_model.specs.Steps.{◌>>=◌}
use Rattle.sg_format.specs.Steps.{passed}
use Rattle.sg_document_laws.specs.Orders.{told}

-- a step that tells a fault or a value, and then the next one with this value
pub after : {A B : Type 0} (step : Result A GameFault) (next : A → Result B GameFault) (first later : Option GameFault) (x : A) (y : B)
    → step ≡ told first x → (first ≡ None → next x ≡ told later y) → (step >>= next) ≡ told (first orelse later) y
after step next None later x y e k = ap (λ s. s >>= next) e ∙ k refl
after step next (Some fault) later x y e k = ap (λ s. s >>= next) e

-- a step whose value is put into the answer
pub into : {A B : Type 0} (step : Result A GameFault) (form : A → B) (first : Option GameFault) (x : A) → step ≡ told first x → (step >>= (λ value. Ok (form value))) ≡ told first (form x)
into step form None x e = ap (λ s. s >>= (λ value. Ok (form value))) e
into step form (Some fault) x e = ap (λ s. s >>= (λ value. Ok (form value))) e

-- a test, and then the next step
pub after_test : {B : Type 0} (test : Bool) (reason : ℕ) (place : Place) (rest : Result B GameFault) (later : Option GameFault) (y : B)
    → (test ≡ true → rest ≡ told later y) → (passed test reason place >>= (λ x. rest)) ≡ told (fault_unless test reason place orelse later) y
after_test true reason place rest later y k = k refl
after_test false reason place rest later y k = refl

-- a test that is the last step
pub last_test : {B : Type 0} (test : Bool) (reason : ℕ) (place : Place) (y : B) → (passed test reason place >>= (λ x. Ok y)) ≡ told (fault_unless test reason place) y
last_test true reason place y = refl
last_test false reason place y = refl

-- two tests with the same fault
pub both_tests : {B : Type 0} (first second : Bool) (reason : ℕ) (place : Place) (y : B)
    → told (fault_unless first reason place orelse fault_unless second reason place) y ≡ told (fault_unless (first && second) reason place) y
both_tests true second reason place y = refl
both_tests false second reason place y = refl

-- the first of three faults
pub in_turn : (a b c : Option GameFault) → ((a orelse b) orelse c) ≡ (a orelse (b orelse c))
in_turn None b c = refl
in_turn (Some fault) b c = refl

-- a fault, or else none
pub or_none : (a : Option GameFault) → (a orelse None) ≡ a
or_none None = refl
or_none (Some fault) = refl
