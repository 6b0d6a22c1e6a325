-- What the plays of a game of identical patrols cover.
use Rattle.std.proofs.Common.{◌≡◌, ℕ, zero, suc, ◌+◌, ◌<◌, ◌≤◌, Bool, true, false, cond, ◌||◌, List, [], ◌∷◌, length, ℤ, pos, ◌+ℤ◌, ◌*ℤ◌, ◌≤ℤ◌, sym, ◌∙◌, ap, refl, arith, eqb, Some, None, ◌≢◌, ◌-ℤ◌, slice_index_or, ◌-◌}
use Rattle.std.specs.List.{All, list_any}
use Rattle.std.proofs.lemmas.Int.{ints}
use Rattle.std.proofs.lemmas.Bool.Decides.{nat_tests, when_false}
use Rattle.std.proofs.lemmas.List.Elements.{All-head, All-tail}
use Rattle.sg_model.specs.declared.ticket.Ticket.{Ticket}
use Rattle.sg_model.specs.Commitments.{IsCommitment, cover_count, weight_total}
use Rattle.sg_model.specs.Games.{Game, is_matrix, Named, resource_count, resource_schedules, schedule_targets, unnamed}
use Rattle.sg_model.specs.Plays.{IsLegal, IsLegalJoint, IsRow, covers, covers_from}
use Rattle.sg_model.specs.Sums.{nth, numbers, total}
use Rattle.sg_model.proofs.Ints.{v, n, plus, less, times, same_by, le_by}
use Rattle.sg_model.proofs.Sums.{total-add, total-le, total-scaled, total-exchange, total-zero, total-nonneg}
use Rattle.sg_model.proofs.Numbers.{All-numbers, once, nth-numbers, nth-is, length-numbers_from}

-- with patrols, schedule s holds target s alone
pub holds-patrols : (g : Game) (patrols : ℕ) → g.patrols ≡ Some patrols → (s t : ℕ) → 1 ≤ t → list_any (λ x. eqb x t) (schedule_targets g s) ≡ eqb s t
holds-patrols g patrols e zero t h = rw e (grind (arith, nat_tests))
holds-patrols g patrols e (suc s) t h = rw e (grind (arith, nat_tests))

or_at_most : (x y : Bool) (w : ℤ) → pos 0 ≤ℤ w → cond (x || y) w (pos 0) ≤ℤ (cond x w (pos 0) +ℤ cond y w (pos 0))
or_at_most true true w h = omega (arith, ints)
or_at_most true false w h = omega (arith, ints)
or_at_most false y w h = omega (arith, ints)

-- a play covers at most as many targets as it has choices
play_covers : (g : Game) (patrols : ℕ) → g.patrols ≡ Some patrols → (m : ℕ) (w : ℤ) → pos 0 ≤ℤ w → (r : ℕ) (play : List ℕ)
    → total (λ t. cond (covers_from g r play t) w (pos 0)) (numbers m) ≤ℤ (pos (length play) *ℤ w)
play_covers g patrols e m w h r [] = rw (total-zero (numbers m)) (le_by (n 0) (times (n 0) (v w)) (omega arith))
play_covers g patrols e m w h r (c ∷ cs) =
    let s : ℕ = nth (resource_schedules g r) c 0 in
    let here = λ (t : ℕ). cond (eqb s t) w (pos 0) in
    let rest = λ (t : ℕ). cond (covers_from g (r + 1) cs t) w (pos 0) in
    let step : (t : ℕ) → 1 ≤ t → t ≤ m → cond (covers_from g r (c ∷ cs) t) w (pos 0) ≤ℤ (here t +ℤ rest t) =
    λ t low high. rw (holds-patrols g patrols e s t low) (or_at_most (eqb s t) (covers_from g (r + 1) cs t) w h) in
    let a = total-le (λ t. cond (covers_from g r (c ∷ cs) t) w (pos 0)) (λ t. here t +ℤ rest t) (numbers m) (All-numbers (λ t. cond (covers_from g r (c ∷ cs) t) w (pos 0) ≤ℤ (here t +ℤ rest t)) m step) in
    let b = total-add here rest (numbers m) in
    let d = once w h s 1 m in
    let f = play_covers g patrols e m w h (r + 1) cs in
    let k : (pos (suc (length cs)) *ℤ w) ≡ (pos (length cs) *ℤ w) +ℤ w = same_by (times (n (suc (length cs))) (v w)) (plus (times (n (length cs)) (v w)) (v w)) (omega arith) in
    omega (arith, ints, a, b, d, f, k)

legal_length : (g : Game) (patrols : ℕ) → g.patrols ≡ Some patrols → is_matrix g ≡ false → (play : List ℕ) → IsLegal g play → length play ≡ patrols
legal_length g patrols e s play legal =
    let joint : IsLegalJoint g play = when_false (IsRow g play) (IsLegalJoint g play) s legal in
    let count : resource_count g ≡ patrols = rw e refl in
    joint.one_each ∙ count

-- over all targets, the patrols cover no more than their number times the weights
pub cover_count-sum : (g : Game) (patrols : ℕ) → g.patrols ≡ Some patrols → is_matrix g ≡ false → (k : List Ticket) → IsCommitment g k
    → total (cover_count g k) (numbers (length g.goals)) ≤ℤ (pos patrols *ℤ weight_total k)
cover_count-sum g patrols e s k is_k =
    let m : ℕ = length g.goals in
    let part = λ (t : ℕ) (x : Ticket). cond (covers g x.play.code t) x.weight (pos 0) in
    let a = total-exchange part (numbers m) k in
    let each : All (λ (x : Ticket). total (λ t. part t x) (numbers m) ≤ℤ (pos patrols *ℤ x.weight)) k =
    λ i d lt.
    let x : Ticket = slice_index_or k i d in
    let b = play_covers g patrols e m x.weight (omega (arith, ints, is_k.positive i d lt)) 1 x.play.code in
    rw (legal_length g patrols e s x.play.code (is_k.legal i d lt)) at b in
    let b = total-le (λ (x : Ticket). total (λ t. part t x) (numbers m)) (λ (x : Ticket). pos patrols *ℤ x.weight) k each in
    let d = total-scaled (λ (x : Ticket). x.weight) (pos patrols) k in
    omega (arith, ints, a, b, d)

pub cover_count-bounds : (g : Game) (k : List Ticket) (t : ℕ) → All (λ (x : Ticket). pos 1 ≤ℤ x.weight) k → (pos 0 ≤ℤ cover_count g k t) × (cover_count g k t ≤ℤ weight_total k)
cover_count-bounds g [] t h = (omega (arith, ints), omega (arith, ints))
cover_count-bounds g (x ∷ xs) t h =
    let Heavy : Ticket → Type 0 = λ (x : Ticket). pos 1 ≤ℤ x.weight in
    let rest = cover_count-bounds g xs t (All-tail Heavy x xs h) in
    let here = All-head Heavy x xs h in
    let w : (b : Bool) → (pos 0 ≤ℤ cond b x.weight (pos 0)) × (cond b x.weight (pos 0) ≤ℤ x.weight) =
    λ b. elim b as (λ b. (pos 0 ≤ℤ cond b x.weight (pos 0)) × (cond b x.weight (pos 0) ≤ℤ x.weight)) [ true ↦ (omega (arith, ints, here), omega (arith, ints)) | false ↦ (omega (arith, ints), omega (arith, ints, here)) ] in
    let q = w (covers g x.play.code t) in
    (omega (arith, ints, q, rest), omega (arith, ints, q, rest))

-- the weights are at least 1
abbrev pub ArePositive : List Ticket → Type 0
ArePositive k = All (λ (x : Ticket). pos 1 ≤ℤ x.weight) k

pub weight_total-nonneg : (k : List Ticket) → ArePositive k → pos 0 ≤ℤ weight_total k
weight_total-nonneg k h = total-nonneg (λ (x : Ticket). x.weight) k (λ i d lt. omega (arith, ints, h i d lt))

pub weight_total-positive : (k : List Ticket) → k ≢ [] → ArePositive k → pos 1 ≤ℤ weight_total k
weight_total-positive [] some h = absurd (some refl)
weight_total-positive (x ∷ xs) some h =
    let Heavy : Ticket → Type 0 = λ (x : Ticket). pos 1 ≤ℤ x.weight in
    omega (arith, ints, weight_total-nonneg xs (All-tail Heavy x xs h), All-head Heavy x xs h)

-- a sum over the tickets of one payoff where the target is covered and another where it isn't
pub total-covered : (g : Game) (k : List Ticket) (t : ℕ) (inside outside : ℤ)
    → total (λ (x : Ticket). x.weight *ℤ cond (covers g x.play.code t) inside outside) k ≡ (outside *ℤ weight_total k) +ℤ ((inside -ℤ outside) *ℤ cover_count g k t)
total-covered g [] t inside outside = same_by (n 0) (plus (times (v outside) (n 0)) (times (less (v inside) (v outside)) (n 0))) (omega arith)
total-covered g (x ∷ xs) t inside outside =
    let w = v x.weight in let i = v inside in let o = v outside in let d = v (weight_total xs) in let c = v (cover_count g xs t) in
    let step : (b : Bool) → (x.weight *ℤ cond b inside outside) +ℤ ((outside *ℤ weight_total xs) +ℤ ((inside -ℤ outside) *ℤ cover_count g xs t))
    ≡ (outside *ℤ (x.weight +ℤ weight_total xs)) +ℤ ((inside -ℤ outside) *ℤ (cond b x.weight (pos 0) +ℤ cover_count g xs t)) =
    λ b. elim b as (λ b. (x.weight *ℤ cond b inside outside) +ℤ ((outside *ℤ weight_total xs) +ℤ ((inside -ℤ outside) *ℤ cover_count g xs t)) ≡ (outside *ℤ (x.weight +ℤ weight_total xs)) +ℤ ((inside -ℤ outside) *ℤ (cond b x.weight (pos 0) +ℤ cover_count g xs t))) [
      | true ↦ same_by (plus (times w i) (plus (times o d) (times (less i o) c))) (plus (times o (plus w d)) (times (less i o) (plus w c))) (omega arith)
      | false ↦ same_by (plus (times w o) (plus (times o d) (times (less i o) c))) (plus (times o (plus w d)) (times (less i o) (plus (n 0) c))) (omega arith)
    ] in
    ap (λ (z : ℤ). (x.weight *ℤ cond (covers g x.play.code t) inside outside) +ℤ z) (total-covered g xs t inside outside) ∙ step (covers g x.play.code t)

-- what a choice above 0 holds
pub choice-patrols : (g : Game) (patrols : ℕ) → g.patrols ≡ Some patrols → (r c t : ℕ) → 1 ≤ t → 1 ≤ c → c ≤ length (resource_schedules g r)
    → list_any (λ x. eqb x t) (schedule_targets g (nth (resource_schedules g r) c 0)) ≡ eqb c t
choice-patrols g patrols e r c t low from_one in_list =
    let all : resource_schedules g r ≡ numbers (length g.goals) = rw e refl in
    let within : c ≤ length g.goals = omega (arith, ap length all, length-numbers_from 1 (length g.goals)) in
    let this : nth (resource_schedules g r) c 0 ≡ c = ap (λ (xs : List ℕ). nth xs c 0) all ∙ nth-numbers (length g.goals) c 0 from_one within in
    holds-patrols g patrols e (nth (resource_schedules g r) c 0) t low ∙ ap (λ (s : ℕ). eqb s t) this

pub resource-listed : (g : Game) → g.patrols ≡ None → (r : ℕ) (x : Named) → r < length g.resources → x ≡ slice_index_or g.resources r x → resource_schedules g (r + 1) ≡ x.members
resource-listed g e r x lt is =
    let at : nth g.resources (r + 1) unnamed ≡ slice_index_or g.resources (r + 1 - 1) x = nth-is g.resources (r + 1) unnamed x (omega arith) (omega arith) in
    let same : r + 1 - 1 ≡ r = omega arith in
    let opened : resource_schedules g (r + 1) ≡ (nth g.resources (r + 1) unnamed).members = rw e refl in
    opened ∙ (ap (λ (y : Named). y.members) at ∙ (ap (λ (k : ℕ). (slice_index_or g.resources k x).members) same ∙ ap (λ (y : Named). y.members) (sym is)))

pub schedule-listed : (g : Game) → g.patrols ≡ None → (s : ℕ) (x : Named) → 1 ≤ s → s ≤ length g.schedules → x ≡ slice_index_or g.schedules (s - 1) x → schedule_targets g s ≡ x.members
schedule-listed g e s x from_one within is =
    let opened : schedule_targets g s ≡ (nth g.schedules s unnamed).members = rw e refl in
    opened ∙ ap (λ (y : Named). y.members) (nth-is g.schedules s unnamed x from_one within ∙ sym is)
