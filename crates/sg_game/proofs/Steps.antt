-- First faults of two tests, one after the other.
use Rattle.std.proofs.Common.{◌≡◌, ℕ, Bool, true, false, ◌&&◌, Option, Some, None, refl}
use Rattle.sg_model.specs.declared.fault.GameFault.{GameFault}
use Rattle.sg_model.specs.declared.fault.Place.{Place}
use Rattle.sg_game.specs.Faults.{◌orelse◌, fault_unless}

pub neither : (a b : Option GameFault) → (a orelse b) ≡ None → (a ≡ None) × (b ≡ None)
neither None b h = (refl, h)
neither (Some f) b h = absurd (cc)

pub both : (a b : Option GameFault) → a ≡ None → b ≡ None → (a orelse b) ≡ None
both None b h i = i
both (Some f) b h i = absurd (cc)

pub holds : (test : Bool) (reason : ℕ) (place : Place) → fault_unless test reason place ≡ None → test ≡ true
holds true reason place h = refl
holds false reason place h = absurd (cc)

pub fine : (test : Bool) (reason : ℕ) (place : Place) → test ≡ true → fault_unless test reason place ≡ None
fine true reason place h = refl
fine false reason place h = absurd (cc)

pub and_both : (a b : Bool) → (a && b) ≡ true → (a ≡ true) × (b ≡ true)
and_both true b h = (refl, h)
and_both false b h = absurd (cc)
