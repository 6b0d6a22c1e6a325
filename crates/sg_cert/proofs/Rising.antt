-- Tickets that are read one after the other are a claim.
use Rattle.std.proofs.Common.{◌≡◌, suc, ◌-◌, ◌≤◌, Bool, true, false, ◌&&◌, List, [], ◌∷◌, ◌++◌, length, Option, Some, refl, sym, ap, ◌∙◌, arith}
use Rattle.std.specs.Prelude.{◌==◌, pos, int_le}
use Rattle.std.specs.Option.{option_map}
use Rattle.std.specs.Prelude.{slice_get}
use Rattle.std.proofs.lemmas.Bool.Decides.{nat_tests}
use Rattle.sg_model.specs.declared.ticket.Ticket.{Ticket}
use Rattle.sg_tree.specs.Claims.{comes_before, is_claim_rising, are_positive, is_claim}
use Rattle.sg_cert.specs.LineReading.{follows}
use Rattle.sg_cert.specs.Reading.{last, last_play}
use Rattle.sg_cert.proofs.Cut.{both}

-- positive and rising, also where there is none yet
abbrev pub rises : List Ticket → Bool
rises ts = are_positive ts && is_claim_rising ts

some_items : {A : Type 0} (xs : List A) → (suc (length xs) == 0) ≡ false
some_items xs = grind (arith, nat_tests)

-- the last of some items
last_of : {A : Type 0} (x : A) (xs : List A) → last (x ∷ xs) ≡ slice_get (x ∷ xs) (length xs)
last_of x xs = let k : suc (length xs) - 1 ≡ length xs = omega arith in rw (some_items xs, k) refl

pub last_more : {A : Type 0} (x y : A) (ys : List A) → last (x ∷ y ∷ ys) ≡ last (y ∷ ys)
last_more x y ys = last_of x (y ∷ ys) ∙ sym (last_of y ys)

last_cons : {A : Type 0} (x : A) (ys : List A) (z : A) → last (x ∷ (ys ++ z ∷ [])) ≡ last (ys ++ z ∷ [])
last_cons x [] z = last_more x z []
last_cons x (y ∷ ys) z = last_more x y (ys ++ z ∷ [])

pub last_push : {A : Type 0} (xs : List A) (z : A) → last (xs ++ z ∷ []) ≡ Some z
last_push [] z = last_of z []
last_push (x ∷ xs) z = last_cons x xs z ∙ last_push xs z

positive_push : (ts : List Ticket) (t : Ticket) → are_positive ts ≡ true → int_le (pos 1) t.weight ≡ true → are_positive (ts ++ t ∷ []) ≡ true
positive_push [] t h e = rw e refl
positive_push (u ∷ us) t h e = let k = both (int_le (pos 1) u.weight) (are_positive us) h in rw (k.0) (positive_push us t k.1 e)

rising_push : (ts : List Ticket) (t : Ticket) → is_claim_rising ts ≡ true → follows (last_play ts) t.play.code ≡ true → is_claim_rising (ts ++ t ∷ []) ≡ true
rising_push [] t h e = refl
rising_push (u ∷ []) t h e = rw e refl
rising_push (u ∷ v ∷ vs) t h e =
    let k = both (comes_before u.play.code v.play.code) (is_claim_rising (v ∷ vs)) h in
    let f : follows (last_play (v ∷ vs)) t.play.code ≡ true = ap (λ (l : Option Ticket). follows (option_map (λ (w : Ticket). w.play.code) l) t.play.code) (sym (last_more u v vs)) ∙ e in
    rw (k.0) (rising_push (v ∷ vs) t k.1 f)

both_true : (a b : Bool) → a ≡ true → b ≡ true → (a && b) ≡ true
both_true a b e f = rw (e, f) refl

pub rises_push : (ts : List Ticket) (t : Ticket) → rises ts ≡ true → int_le (pos 1) t.weight ≡ true → follows (last_play ts) t.play.code ≡ true → rises (ts ++ t ∷ []) ≡ true
rises_push ts t h e f =
    let k = both (are_positive ts) (is_claim_rising ts) h in
    both_true (are_positive (ts ++ t ∷ [])) (is_claim_rising (ts ++ t ∷ [])) (positive_push ts t k.0 e) (rising_push ts t k.1 f)

pub rises_push_at : (slice ts : List Ticket) (t : Ticket) → slice ≡ ts → rises ts ≡ true → (int_le (pos 1) t.weight ≡ true) × (follows (last_play slice) t.play.code ≡ true) → rises (ts ++ t ∷ []) ≡ true
rises_push_at slice ts t e h k = rises_push ts t h k.0 (rw e at k.1)

pub claim_from_rises : (ts : List Ticket) → 1 ≤ length ts → rises ts ≡ true → is_claim ts ≡ true
claim_from_rises [] some h = absurd (omega (arith, some))
claim_from_rises (t ∷ ts) some h = rw (some_items ts) h
