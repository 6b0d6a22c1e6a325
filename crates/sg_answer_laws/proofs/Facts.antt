-- The facts of worked nodes lie in the ranges of a report's text.
use Rattle.std.proofs.Common.{◌≡◌, ◌≢◌, ℕ, suc, ◌+◌, ◌≤◌, ◌<◌, ◌^◌, Bool, true, List, [], ◌∷◌, map, flat_map, length, Contains, ℤ, pos, ◌+ℤ◌, ◌*ℤ◌, ◌≤ℤ◌, sym, subst, refl, arith, inl, inr, Option, Some, None, ◌||◌, ◌&&◌, ◌==◌, nat_lt, slice_index_or, ◌⊎◌, cond, drop, ◌-◌, ◌++◌, false}
use Rattle.std.specs.List.{All, AllPairs, zip}
use Rattle.std.specs.Prelude.{int_lt}
use Rattle.std.proofs.lemmas.Int.{ints}
use Rattle.std.proofs.lemmas.Bool.{and_from, eq-eqb, lt-ltb}
use Rattle.std.proofs.lemmas.List.Elements.{All-contains, All-head, All-map, All-tail}
use Rattle.sg_model.specs.declared.ticket.Ticket.{Ticket}
use Rattle.sg_model.specs.Sums.{greatest, least, numbers, numbers_from, total}
use Rattle.sg_model.specs.Games.{Game, action_count, attacker}
use Rattle.sg_model.specs.Plays.{IsLegal, pay_d}
use Rattle.sg_model.specs.Payoffs.{IsPeopled, greatest_of, payoffs_at, payoffs_of, shift_of}
use Rattle.sg_model.specs.Commitments.{IsCommitment, sum_d, weight_total}
use Rattle.sg_model.proofs.Best.{greatest-bounds, greatest-reached}
use Rattle.sg_model.proofs.Greatest.{or-left, or-right}
use Rattle.sg_model.proofs.Covers.{weight_total-positive}
use Rattle.sg_model.proofs.Ints.{v, plus, times, le_by, le_from, same_from, mul-le, cancel-le}
use Rattle.sg_model.proofs.Payoffs.{Contains-flat_map, Contains-numbers, least-bounds, listed}
use Rattle.sg_model.proofs.Sums.{total-le, total-scaled}
use Rattle.sg_tree.specs.declared.fix.Fix.{Fix}
use Rattle.sg_bounds.specs.Regions.{IsFix, fixed}
use Rattle.sg_bounds.specs.Sizes.{defender_most, fixed_priors}
use Rattle.sg_bounds.proofs.Caps.{one_le_product, sum_d-high}
use Rattle.sg_bounds.proofs.Cover.{fixed_pairs}
use Rattle.sg_bounds.specs.Facts.{HoldsFor, IsMarkOf, IsPlaysFact, shifted_sum}
use Rattle.sg_bounds.specs.PlayRows.{comparisons}
use Rattle.sg_bounds.specs.Regions.{IsNode}
use Rattle.sg_bounds.specs.Sizes.{attacker_most, running, size_list, size_sum, size_sums}
use Rattle.sg_commit.specs.Committed.{Committed}
use Rattle.sg_commit.proofs.Standing.{All-front}
use Rattle.sg_tree.specs.declared.fact.Fact.{Fact}
use Rattle.sg_tree.specs.declared.fact.Fact.TheVariants.{Plays}
use Rattle.sg_tree.specs.declared.fact.Mark.{Mark}
use Rattle.sg_num.specs.Exact.{Fits}
use Rattle.sg_model.specs.Limits.{IsGame}
use Rattle.sg_model.proofs.Before.{pairs-head, pairs-tail}
use Rattle.sg_model.proofs.Promises.{peopled}
use Rattle.sg_model.proofs.Sizes.{short_lists, small_counts}
use Rattle.sg_cert.specs.LineReading.{mark_follows}
use Rattle.sg_cert.specs.Ranges.{IsFact, IsMark, Rises}
use Rattle.sg_rows.specs.Rows.{place}
use Rattle.sg_search.specs.Results.{IsPointOf}
use Rattle.sg_programs.specs.Laws.{ComesBefore}
use Rattle.sg_programs.specs.Marks.{marks_of}
use Rattle.sg_programs.specs.NodeTests.{ClosesNode, Method}
use Rattle.sg_programs.proofs.Heights.{height-few}
use Rattle.sg_programs.proofs.Multipliers.{marks_rise}
use Rattle.sg_programs.proofs.NodeEnds.{closed_is_result}
use Rattle.sg_programs.proofs.Sized.{few-types}
use Rattle.sg_answer_laws.proofs.Fitting.{each-fits, factor-below, fits-below}

-- ---- priors

priors-from : (g : Game) → IsPeopled g → (r : ℕ) (acts : List ℕ) → 1 ≤ r → r + length acts ≤ length g.types + 1
    → pos (length acts) ≤ℤ total (λ (p : ℕ × ℕ). (attacker g p.0).prior) (zip (numbers_from r (length acts)) acts)
priors-from g peopled r [] low high = omega (arith, ints)
priors-from g peopled r (a ∷ acts) low high =
    let here = peopled.priors r low (omega (arith, high)) in
    let rest = priors-from g peopled (r + 1) acts (omega arith) (omega (arith, high)) in
    omega (arith, ints, here, rest)

-- the priors of the fixed types have a sum of at least 1
pub priors-some : (g : Game) → IsPeopled g → (fix : Fix) → IsFix g fix → pos 1 ≤ℤ fixed_priors g fix
priors-some g peopled fix is_fix =
    let all = priors-from g peopled fix.first fix.acts is_fix.from_one is_fix.in_range in
    let some = some-acts fix.acts is_fix.some in
    omega (arith, ints, all, some)
  where
    some-acts : (acts : List ℕ) → acts ≢ [] → 1 ≤ length acts
    some-acts [] h = absurd (h refl)
    some-acts (a ∷ acts) h = omega arith

-- ---- what the defender gets of the fixed types

against-some : (g : Game) (k : List Ticket) → IsCommitment g k → (l a : ℕ) → 1 ≤ a → a ≤ action_count g l → payoffs_of g l ≢ []
against-some g [] is_k l a low high = absurd (is_k.some refl)
against-some g (x ∷ xs) is_k l a low high = λ none.
    let legal : IsLegal g x.play.code = All-head (λ (t : Ticket). IsLegal g t.play.code) x xs is_k.legal in
    let pay : ℤ = pay_d g l x.play.code a in
    let at : Contains (payoffs_of g l) pay = Contains-flat_map (payoffs_at g l) (numbers (action_count g l)) a pay (Contains-numbers (action_count g l) a low high) (listed g x.play.code legal l a) in
    let lost : Contains [] pay = subst (λ (ys : List ℤ). Contains ys pay) none at in
    let lt = lost.1 in
    omega (arith, lt)

-- of a type and an action, with the shift, no more than the most for each ticket
payoff-most : (g : Game) (k : List Ticket) → IsCommitment g k → (l a : ℕ) → 1 ≤ l → l ≤ length g.types → 1 ≤ a → a ≤ action_count g l
    → (sum_d g k l a +ℤ (shift_of g *ℤ weight_total k)) ≤ℤ (defender_most g *ℤ weight_total k)
payoff-most g k is_k l a from_one in_range low high =
    let w : ℤ = weight_total k in
    let every : List ℤ = flat_map (payoffs_of g) (numbers (length g.types)) in
    let some = against-some g k is_k l a low high in
    let at : Contains every (greatest_of g l) = Contains-flat_map (payoffs_of g) (numbers (length g.types)) l (greatest_of g l) (Contains-numbers (length g.types) l from_one in_range) (greatest-reached (payoffs_of g l) some) in
    let top : greatest_of g l ≤ℤ greatest every = All-contains (λ x. x ≤ℤ greatest every) every (greatest_of g l) (greatest-bounds every) at in
    let sum = sum_d-high g k is_k l a from_one in_range low high in
    let up = mul-le (greatest_of g l +ℤ shift_of g) (defender_most g) w (omega (arith, ints, top)) (omega (arith, ints, weight_total-positive k is_k.some is_k.positive)) in
    le_by (plus (v (sum_d g k l a)) (times (v (shift_of g)) (v w))) (times (v (defender_most g)) (v w))
    (omega (arith, le_from (v (sum_d g k l a)) (times (v (greatest_of g l)) (v w)) sum, le_from (times (plus (v (greatest_of g l)) (v (shift_of g))) (v w)) (times (v (defender_most g)) (v w)) up))

pub shifted-most : (g : Game) → IsPeopled g → (fix : Fix) → IsFix g fix → (k : List Ticket) → IsCommitment g k
    → shifted_sum g fix k ≤ℤ ((defender_most g *ℤ weight_total k) *ℤ fixed_priors g fix)
shifted-most g peopled fix is_fix k is_k =
    let c : ℤ = defender_most g *ℤ weight_total k in
    let own = λ (p : ℕ × ℕ). (attacker g p.0).prior in
    let sum = λ (p : ℕ × ℕ). sum_d g k p.0 p.1 +ℤ (shift_of g *ℤ weight_total k) in
    let each : All (λ (p : ℕ × ℕ). (own p *ℤ sum p) ≤ℤ (c *ℤ own p)) (fixed fix) = λ i d lt.
    let p : ℕ × ℕ = slice_index_or (fixed fix) i d in
    let pair = fixed_pairs fix i d lt in
    let act = is_fix.acts i d lt in
    let from = is_fix.from_one in
    let to = is_fix.in_range in
    let bottom = pair.low in
    let top = pair.high in
    let most = payoff-most g k is_k p.0 p.1 (omega (arith, from, bottom)) (omega (arith, to, top)) act.0 act.1 in
    let prior = peopled.priors p.0 (omega (arith, from, bottom)) (omega (arith, to, top)) in
    let up = mul-le (sum p) c (own p) most (omega (arith, ints, prior)) in
    le_by (times (v (own p)) (v (sum p))) (times (v c) (v (own p))) (omega (arith, le_from (times (v (sum p)) (v (own p))) (times (v c) (v (own p))) up)) in
    let le = total-le (λ (p : ℕ × ℕ). own p *ℤ sum p) (λ (p : ℕ × ℕ). c *ℤ own p) (fixed fix) each in
    omega (arith, ints, le, total-scaled own c (fixed fix))

-- the most with the shift is at least 1
least-greatest : (xs : List ℤ) → least xs ≤ℤ greatest xs
least-greatest [] = omega (arith, ints)
least-greatest (x ∷ xs) =
    let low = All-head (λ z. least (x ∷ xs) ≤ℤ z) x xs (least-bounds (x ∷ xs)) in
    let high = All-head (λ z. z ≤ℤ greatest (x ∷ xs)) x xs (greatest-bounds (x ∷ xs)) in
    omega (arith, ints, low, high)

most-some : (g : Game) → pos 1 ≤ℤ defender_most g
most-some g =
    let every : List ℤ = flat_map (payoffs_of g) (numbers (length g.types)) in
    let le = least-greatest every in
    omega (arith, ints, le)

-- ---- the head of a fact

-- a fact that a commitment reaches, or whose region is empty: mu is at most the first product of the size sum
mu-most : (g : Game) → IsPeopled g → (fix : Fix) → IsFix g fix → (rho mu : ℤ) (marks : List Mark) → pos 1 ≤ℤ rho → pos 0 ≤ℤ ((rho *ℤ fixed_priors g fix) *ℤ defender_most g)
    → (point : Option Committed) → IsPointOf g fix (Plays rho mu marks) point → mu ≤ℤ ((rho *ℤ fixed_priors g fix) *ℤ defender_most g)
mu-most g peopled fix is_fix rho mu marks one low None is = omega (arith, ints, is, low)
mu-most g peopled fix is_fix rho mu marks one low (Some k) is =
    let reaches = is.2 in
    let w : ℤ = weight_total k.tickets in
    let fp : ℤ = fixed_priors g fix in
    let most : ℤ = defender_most g in
    let sum : ℤ = shifted_sum g fix k.tickets in
    let is_k = reaches.commitment in
    let equal : rho *ℤ sum ≡ mu *ℤ w = reaches.equal in
    let le = shifted-most g peopled fix is_fix k.tickets is_k in
    let up = mul-le sum ((most *ℤ w) *ℤ fp) rho le (omega (arith, ints, one)) in
    cancel-le mu ((rho *ℤ fp) *ℤ most) w
    (le_by (times (v mu) (v w)) (times (times (times (v rho) (v fp)) (v most)) (v w))
    (omega (arith, same_from (times (v rho) (v sum)) (times (v mu) (v w)) equal, le_from (times (v sum) (v rho)) (times (times (times (v most) (v w)) (v fp)) (v rho)) up)))
    (weight_total-positive k.tickets is_k.some is_k.positive)

-- ---- its marks

-- one mark stands before another
abbrev MarkBefore : Mark → Mark → Type 0
MarkBefore a b = ComesBefore (a.l, a.a) (b.l, b.a)

order-by : (a b c d : ℕ) → (a < b) ⊎ ((a ≡ b) × (c < d)) → (nat_lt a b || (a == b && nat_lt c d)) ≡ true
order-by a b c d (inl h) = or-left (nat_lt a b) (a == b && nat_lt c d) (lt-ltb a b h)
order-by a b c d (inr h) = or-right (nat_lt a b) (a == b && nat_lt c d) (and_from (a == b) (nat_lt c d) (eq-eqb a b h.0) (lt-ltb c d h.1))

-- what a mark of a node of small numbers is
ranged-mark : (g : Game) (fix : Fix) → length g.types ≤ 8 → ((l : ℕ) → action_count g l < 2 ^ 16) → IsFix g fix → (before : Option Mark) (m : Mark) → IsMarkOf g fix m → Fits m.v
    → ((b : Mark) → before ≡ Some b → MarkBefore b m) → IsMark before m
ranged-mark g fix few small is_fix before m is fit behind =
    let from = is.from_first in
    let from_one = is_fix.from_one in
    let to = is.in_range in
    let end = is_fix.in_range in
    let act = is.action in
    let least = small m.l in
    record {
      l = (omega (arith, from_one, from), omega (arith, to, end, few));
      a = (is.from_one, omega (arith, act, least));
      v = (is.positive, fit);
      order = by before behind;
    }
  where
    by : (b : Option Mark) → ((x : Mark) → b ≡ Some x → MarkBefore x m) → mark_follows b m.l m.a ≡ true
    by None h = refl
    by (Some x) h = order-by x.l m.l x.a m.a (h x refl)

marks-ranged : (g : Game) (fix : Fix) → length g.types ≤ 8 → ((l : ℕ) → action_count g l < 2 ^ 16) → IsFix g fix → (before : Option Mark) (ms : List Mark) → All (IsMarkOf g fix) ms → All Fits (map (λ (m : Mark). m.v) ms)
    → AllPairs MarkBefore ms → ((b : Mark) → before ≡ Some b → All (MarkBefore b) ms) → Rises IsMark before ms
marks-ranged g fix few small is_fix before [] all fit pairs behind = tt
marks-ranged g fix few small is_fix before (m ∷ ms) all fit pairs behind =
    let vs : List ℤ = map (λ (m : Mark). m.v) ms in (
      ranged-mark g fix few small is_fix before m (All-head (IsMarkOf g fix) m ms all) (All-head Fits m.v vs fit) (λ b e. All-head (MarkBefore b) m ms (behind b e)),
      marks-ranged g fix few small is_fix (Some m) ms (All-tail (IsMarkOf g fix) m ms all) (All-tail Fits m.v vs fit) (pairs-tail MarkBefore m ms pairs) (λ b e. subst (λ (x : Mark). All (MarkBefore x) ms) (some-one e) (pairs-head MarkBefore m ms pairs)),
    )
  where
    some-one : {X : Type 0} {a b : X} → Some a ≡ Some b → a ≡ b
    some-one h = cc

-- ---- facts of small numbers

ranged-fact : (g : Game) → IsPeopled g → length g.types ≤ 8 → ((l : ℕ) → action_count g l < 2 ^ 16) → (fix : Fix) → IsFix g fix → (rho mu : ℤ) (marks : List Mark) → IsPlaysFact g fix rho mu marks
    → (point : Option Committed) → IsPointOf g fix (Plays rho mu marks) point → All Fits (size_list g fix (Plays rho mu marks)) → AllPairs MarkBefore marks → length marks ≤ 2 ^ 127 - 1 → IsFact (Plays rho mu marks)
ranged-fact g is_peopled few small fix is_fix rho mu marks holds point is_point fit pairs count =
    let fp : ℤ = fixed_priors g fix in
    let most : ℤ = defender_most g in
    let vs : List ℤ = map (λ (m : Mark). m.v) marks in
    let sums : List ℤ = running (pos 0) vs in
    let last : List ℤ = (total (λ v. v) vs *ℤ attacker_most g) ∷ size_sum g fix (Plays rho mu marks) ∷ [] in
    let one = holds.rho_positive in
    let some = priors-some g is_peopled fix is_fix in
    let first : Fits (rho *ℤ fp) = All-head Fits (rho *ℤ fp) (((rho *ℤ fp) *ℤ most) ∷ (sums ++ last)) fit in
    let rest = All-tail Fits (rho *ℤ fp) (((rho *ℤ fp) *ℤ most) ∷ (sums ++ last)) fit in
    let second : Fits ((rho *ℤ fp) *ℤ most) = All-head Fits ((rho *ℤ fp) *ℤ most) (sums ++ last) rest in
    let running_fit : All Fits sums = All-front Fits sums last (All-tail Fits ((rho *ℤ fp) *ℤ most) (sums ++ last) rest) in
    let product = one_le_product rho fp one some in
    let high = most-some g in
    let both = one_le_product (rho *ℤ fp) most product high in
    let each : All (λ x. pos 0 ≤ℤ x) vs = All-map (λ x. pos 0 ≤ℤ x) (λ (m : Mark). m.v) marks (λ i d lt. let p = (holds.marks_of i d lt).positive in omega (arith, ints, p)) in (
      record {
        first = (one, fits-below rho (rho *ℤ fp) (omega (arith, ints, one)) (factor-below rho fp (omega (arith, ints, one)) some) first);
        second = (holds.mu_nonneg, fits-below mu ((rho *ℤ fp) *ℤ most) holds.mu_nonneg (mu-most g is_peopled fix is_fix rho mu marks one (omega (arith, ints, both)) point is_point) second);
        count = count;
      },
      marks-ranged g fix few small is_fix None marks holds.marks_of (each-fits (pos 0) vs (omega (arith, ints)) each running_fit) pairs (λ b e. absurd (none-some e)),
    )
  where
    none-some : {X : Type 0} {a : X} → None ≡ Some a → ⊥
    none-some h = cc

-- ---- the fact of a closed node

pub marks-few : (ms : List (ℕ × ℕ)) (vs : List ℤ) → length (marks_of ms vs) ≤ length ms
marks-few [] vs = omega arith
marks-few (m ∷ ms) [] = omega arith
marks-few (m ∷ ms) (z ∷ vs) = by (int_lt (pos 0) z) (marks-few ms vs)
  where
    by : (t : Bool) → length (marks_of ms vs) ≤ length ms → length (cond t (record { l = m.0; a = m.1; v = z } ∷ marks_of ms vs) (marks_of ms vs)) ≤ suc (length ms)
    by true h = omega (arith, h)
    by false h = omega (arith, h)

pub closed-fact : (g : Game) → IsGame g → g.scale ≡ pos 0 → (fix : Fix) → IsNode g fix → (m : Method) (fact : Fact) (point : Option Committed) → ClosesNode g m fix fact point → IsFact fact
closed-fact g game unscaled fix node m fact point c =
    let is_fix : IsFix g fix = node.is_fix in
    let result = closed_is_result g game unscaled fix node m fact point c in
    let y : List ℤ = c.state.y in
    let ms : List Mark = marks_of (comparisons g fix) (drop 1 y) in
    let holds : IsPlaysFact g fix c.state.rho (place y 0) ms = subst (HoldsFor g fix) c.fact_is result.fact in
    let size : All Fits (size_list g fix (Plays c.state.rho (place y 0) ms)) = subst (λ (f : Fact). All Fits (size_sums g fix f)) c.fact_is result.narrow.size in
    let reached : IsPointOf g fix (Plays c.state.rho (place y 0) ms) point = subst (λ (f : Fact). IsPointOf g fix f point) c.fact_is c.reaches in
    let counts = small_counts g (short_lists g game) in
    let few = marks-few (comparisons g fix) (drop 1 y) in
    let height = height-few g game unscaled fix is_fix in
    subst IsFact (sym c.fact_is)
    (ranged-fact g (peopled g game) (few-types g game) counts.actions fix is_fix c.state.rho (place y 0) ms holds point reached size (marks_rise g fix is_fix (drop 1 y)) (omega (arith, few, height)))
