-- Between two moments at which no count ends nobody moves.
use Rattle.std.proofs.Common.{◌≡◌, ℕ, suc, ◌<◌, List, map, length, ℤ, pos, ◌+ℤ◌, ◌*ℤ◌, ◌≤ℤ◌, ◌<ℤ◌, ap, ◌∙◌, arith, get_or, ◌⊎◌, inl, inr}
use Rattle.std.specs.List.{All}
use Rattle.std.proofs.lemmas.Int.{ints, by_lt_z}
use Rattle.std.proofs.lemmas.List.{get_or_default, length-map}
use Rattle.std.proofs.Math.ListN.{get_or-map}
use Rattle.sg_model.specs.Sums.{numbers_from}
use Rattle.sg_model.proofs.Ints.{mul-le}
use Rattle.sg_split.specs.declared.place.Place.{Place}
use Rattle.sg_split.specs.Laying.{play_at, target_at}
use Rattle.sg_split.specs.Lines.{IsApart, IsMoment, spot}
use Rattle.sg_split.proofs.Covered.{next_patrol}
use Rattle.sg_split.proofs.Firsts.{first_past-same}

-- an end at moment o of patrol q is at most moment x of patrol r, or past moment z of it, if o is not between x and z
pub spot_apart : (q r : ℕ) (d o x z : ℤ) → IsMoment d o → IsMoment d x → IsMoment d z → (o ≤ℤ x) ⊎ (z <ℤ o)
    → ((pos q *ℤ d +ℤ o) ≤ℤ (pos r *ℤ d +ℤ x)) ⊎ ((pos r *ℤ d +ℤ z) <ℤ (pos q *ℤ d +ℤ o))
spot_apart q r d o x z is_o is_x is_z apart =
    by_lt_z (pos q) (pos r)
    (λ before. inl (omega (arith, ints, mul-le (pos (suc q)) (pos r) d (omega (arith, ints, before)) (omega (arith, ints, is_o.low, is_o.high)), next_patrol q d, is_o.high, is_x.low)))
    (λ from. by_lt_z (pos r) (pos q)
    (λ after. inr (omega (arith, ints, mul-le (pos (suc r)) (pos q) d (omega (arith, ints, after)) (omega (arith, ints, is_o.low, is_o.high)), next_patrol r d, is_z.high, is_o.low)))
    (λ upto.
    let k : q ≡ r = omega (arith, ints, from, upto) in
    let same : pos q *ℤ d ≡ pos r *ℤ d = ap (λ (i : ℕ). pos i *ℤ d) k in
    elim apart [
      | inl le ↦ inl (omega (arith, ints, same, le))
      | inr lt ↦ inr (omega (arith, ints, same, lt))
    ]))

-- who stands where at two moments, if each patrol finds the same
pub play_at-same : (ends : List ℤ) (patrols : ℕ) (d x z : ℤ) → ((r : ℕ) → target_at ends (pos r *ℤ d +ℤ x) ≡ target_at ends (pos r *ℤ d +ℤ z)) → play_at ends patrols d x ≡ play_at ends patrols d z
play_at-same ends patrols d x z same = λ i. map (λ r. same r i) (numbers_from 0 patrols)

pub get_or-spots : (d : ℤ) (ends : List Place) (k : ℕ) (p : Place) → k < length ends → get_or (map (spot d) ends) k (pos 0) ≡ spot d (get_or ends k p)
get_or-spots d ends k p lt = get_or_default (map (spot d) ends) k (pos 0) (spot d p) (omega (arith, lt, length-map ends (spot d))) ∙ get_or-map (spot d) ends k p

pub play_at-kept : (d : ℤ) (ends : List Place) (patrols : ℕ) (x y z : ℤ) → All (λ (end : Place). IsMoment d end.moment) ends → IsMoment d x → y ≤ℤ d → IsApart ends x y → x ≤ℤ z → z <ℤ y
    → play_at (map (spot d) ends) patrols d x ≡ play_at (map (spot d) ends) patrols d z
play_at-kept d ends patrols x y z each is_x high apart le below =
    let is_z : IsMoment d z = record { low = omega (arith, ints, is_x.low, le); high = omega (arith, ints, below, high) } in
    play_at-same (map (spot d) ends) patrols d x z (λ r.
    first_past-same 1 (map (spot d) ends) (pos r *ℤ d +ℤ x) (pos r *ℤ d +ℤ z) (omega (arith, ints, le)) (λ k lt.
    let low : k < length ends = omega (arith, lt, length-map ends (spot d)) in
    let p : Place = record { patrol = 0; moment = pos 0 } in
    let end : Place = get_or ends k p in
    let e = get_or-spots d ends k p low in
    let between : (end.moment ≤ℤ x) ⊎ (z <ℤ end.moment) = elim (apart k p low) [ inl before ↦ inl before | inr after ↦ inr (omega (arith, ints, after, below)) ] in
    elim (spot_apart end.patrol r d end.moment x z (each k p low) is_x is_z between) [
      | inl le ↦ inl (omega (arith, ints, e, le))
      | inr lt ↦ inr (omega (arith, ints, e, lt))
    ]))
