-- A test for each thing that is asked of a report, which decides it.
use Rattle.std.proofs.Common.{◌≡◌, ◌≢◌, ℕ, zero, suc, ◌+◌, ◌-◌, ◌<◌, ◌≤◌, ◌%◌, Bool, true, false, true≢false, cond, not, ◌&&◌, ◌||◌, List, [], ◌∷◌, length, ℤ, pos, ◌+ℤ◌, ◌-ℤ◌, ◌*ℤ◌, ◌≤ℤ◌, sym, ap, subst, refl, arith, nat_le, eqb, int_le, slice_index, unsigned_abs, inl, inr, ◌⊎◌, Some, None}
use Rattle.std.specs.Bool.{Decides}
use Rattle.std.specs.Int.{◌∣◌}
use Rattle.std.specs.List.{All, list_all, list_any}
use Rattle.std.specs.Ordering.{int_eq}
use Rattle.std.proofs.lemmas.Bool.Decides.{Decides-and, Decides-eqb, Decides-int_eq, Decides-like, Decides-not, Decides-or}
use Rattle.std.proofs.lemmas.List.Elements.{All-nil, All-cons, All-head, All-tail}
use Rattle.std.proofs.lemmas.Nat.Gcd.{dvd-zero, dvd_antisymm, dvd_of_mod-eq-zero, le_of_dvd, mod-eq-zero_of_dvd}
use Rattle.sg_frac.specs.Fractions.{Fraction}
use Rattle.sg_num.specs.Exact.{fits, Fits}
use Rattle.sg_model.specs.declared.kind.Kind.{Kind}
use Rattle.sg_model.specs.declared.kind.Kind.TheVariants.{Security, Matrix}
use Rattle.sg_model.specs.declared.level.Level.{Level}
use Rattle.sg_model.specs.declared.level.Level.TheVariants.{Resources, Target}
use Rattle.sg_model.specs.declared.ticket.Ticket.{Ticket}
use Rattle.sg_model.specs.Sums.{numbers, total}
use Rattle.sg_model.specs.Games.{Game, action_count, attacker, is_kind_matrix, is_matrix, payoff, prior_total, resource_count, resource_schedules}
use Rattle.sg_model.specs.Plays.{IsLegal, IsLegalJoint, IsRow}
use Rattle.sg_model.specs.Payoffs.{greatest_of, shift_of}
use Rattle.sg_model.specs.Limits.{is_scaled}
use Rattle.sg_model.specs.Commitments.{IsValue, weight_total, worth, AreLowest}
use Rattle.sg_model.specs.Origami.{IsFullyCovered, IsLevelFor, IsWater, SpendsAll, at_level, share}
use Rattle.sg_tree.specs.declared.fact.Fact.{Fact}
use Rattle.sg_tree.specs.declared.fact.Fact.TheVariants.{Plays, Cover, Water}
use Rattle.sg_tree.specs.declared.fact.Mark.{Mark}
use Rattle.sg_tree.specs.declared.fact.Line.{Line}
use Rattle.sg_tree.specs.declared.fix.Fix.{Fix}
use Rattle.sg_tree.specs.declared.report.Cap.{Cap}
use Rattle.sg_tree.specs.declared.report.Report.{Report}
use Rattle.sg_bounds.specs.Regions.{act_of}
use Rattle.sg_bounds.specs.Coverage.{Column, IsColumn, column_cost, entry, row_of, table_rows, whole, columns}
use Rattle.sg_bounds.specs.Facts.{HoldsFor, IsCoverFact, IsLineOf, IsMarkOf, IsPlaysFact, cost, mu_of, regret, rho_of}
use Rattle.sg_bounds.specs.Caps.{IsUnderCap}
use Rattle.sg_bounds.specs.Trees.{Node, unproved, closed, split, IsRoot, node_of}
use Rattle.sg_bounds.specs.Leaves.{tree_bounds_of}
use Rattle.sg_bounds.specs.Sizes.{bound_sums, size_sums, value_sums, weight_sums}
use Rattle.sg_bounds.specs.Accepted.{IsNotAbove, IsGreatest, IsSame, IsWaterTree, is_optimal}
use Rattle.sg_bounds.specs.Checking.{IsCapShape, IsWaterRoot, Passes, Test, legal, weights_fit, totalled, lowest, value_fits, valued, capped, cap_within, caps_end, rooted, leveled, forks, sized, holds, bounded, topped, judged}
use Rattle.sg_model.proofs.Decided.{Decides-all, Decides-any, Decides-if, Decides-iff, Decides-le, Decides-le_z, Decides-listed, Decides-none, Decides-numbers}
use Rattle.sg_bounds.proofs.Listed.{columns-are, columns-inside}
use Rattle.sg_model.proofs.LegalPlays.{legal_plays-legal, legal_plays-complete}
use Rattle.sg_model.specs.PlayLists.{legal_plays}

-- ---- plays

abbrev row_test : Game → List ℕ → Bool
row_test g play = eqb (length play) 1 && (nat_le 1 (slice_index play 0) && nat_le (slice_index play 0) (length g.goals))

Decides-row : (g : Game) (play : List ℕ) → Decides (row_test g play) (IsRow g play)
Decides-row g play =
    let first = nat_le 1 (slice_index play 0) in let last = nat_le (slice_index play 0) (length g.goals) in
    Decides-like (row_test g play)
    (λ h. record { one = h.0; from_one = h.1.0; in_list = h.1.1 })
    (λ (is : IsRow g play). (is.one, (is.from_one, is.in_list)))
    (Decides-and (eqb (length play) 1) (first && last) (Decides-eqb (length play) 1) (Decides-and first last (Decides-le 1 (slice_index play 0)) (Decides-le (slice_index play 0) (length g.goals))))

abbrev choice_test : Game → List ℕ → ℕ → Bool
choice_test g play r = nat_le (slice_index play (r - 1)) (length (resource_schedules g r))

abbrev joint_test : Game → List ℕ → Bool
joint_test g play = eqb (length play) (resource_count g) && list_all (choice_test g play) (numbers (length play))

Decides-joint : (g : Game) (play : List ℕ) → Decides (joint_test g play) (IsLegalJoint g play)
Decides-joint g play =
    let AtMost : ℕ → Type 0 = λ r. slice_index play (r - 1) ≤ length (resource_schedules g r) in
    Decides-like (joint_test g play)
    (λ h. record {
      one_each = h.0;
      in_list = λ k lt. let back : k + 1 - 1 ≡ k = omega arith in subst (λ (i : ℕ). slice_index play i ≤ length (resource_schedules g (k + 1))) back (h.1 (k + 1) (omega arith) (omega arith));
    })
    (λ (is : IsLegalJoint g play). (is.one_each, λ r low high. let back : r - 1 + 1 ≡ r = omega arith in subst (λ (s : ℕ). slice_index play (r - 1) ≤ length (resource_schedules g s)) back (is.in_list (r - 1) (omega arith))))
    (Decides-and (eqb (length play) (resource_count g)) (list_all (choice_test g play) (numbers (length play))) (Decides-eqb (length play) (resource_count g))
    (Decides-numbers (choice_test g play) AtMost (λ r. Decides-le (slice_index play (r - 1)) (length (resource_schedules g r))) (length play)))

abbrev legal_test : Game → List ℕ → Bool
legal_test g play = cond (is_matrix g) (row_test g play) (joint_test g play)

Decides-legal : (g : Game) (play : List ℕ) → Decides (legal_test g play) (IsLegal g play)
Decides-legal g play = Decides-if (is_matrix g) (row_test g play) (joint_test g play) (Decides-row g play) (Decides-joint g play)

-- ---- facts

abbrev mark_test : Game → Fix → Mark → Bool
mark_test g fix m =
    (nat_le fix.first m.l && nat_le (suc m.l) (fix.first + length fix.acts))
    && ((nat_le 1 m.a && nat_le m.a (action_count g m.l)) && (not (eqb m.a (act_of fix m.l)) && int_le (pos 1) m.v))

Decides-mark : (g : Game) (fix : Fix) (m : Mark) → Decides (mark_test g fix m) (IsMarkOf g fix m)
Decides-mark g fix m =
    let a = nat_le fix.first m.l in let b = nat_le (suc m.l) (fix.first + length fix.acts) in
    let d = nat_le 1 m.a in let e = nat_le m.a (action_count g m.l) in
    let f = not (eqb m.a (act_of fix m.l)) in let h = int_le (pos 1) m.v in
    Decides-like (mark_test g fix m)
    (λ k. record { from_first = k.0.0; in_range = k.0.1; from_one = k.1.0.0; action = k.1.0.1; other = k.1.1.0; positive = k.1.1.1 })
    (λ (is : IsMarkOf g fix m). ((is.from_first, is.in_range), ((is.from_one, is.action), (is.other, is.positive))))
    (Decides-and (a && b) ((d && e) && (f && h)) (Decides-and a b (Decides-le fix.first m.l) (Decides-le (suc m.l) (fix.first + length fix.acts)))
    (Decides-and (d && e) (f && h) (Decides-and d e (Decides-le 1 m.a) (Decides-le m.a (action_count g m.l)))
    (Decides-and f h (Decides-not (eqb m.a (act_of fix m.l)) (Decides-eqb m.a (act_of fix m.l))) (Decides-le_z (pos 1) m.v))))

abbrev plays_test : Game → Fix → (rho mu : ℤ) → List Mark → Bool
plays_test g fix rho mu marks =
    (int_le (pos 1) rho && int_le (pos 0) mu)
    && (list_all (mark_test g fix) marks && list_all (λ play. int_le ((rho *ℤ cost g fix play) -ℤ regret g fix marks play) mu) (legal_plays g))

Decides-plays : (g : Game) (fix : Fix) (rho mu : ℤ) (marks : List Mark) → Decides (plays_test g fix rho mu marks) (IsPlaysFact g fix rho mu marks)
Decides-plays g fix rho mu marks =
    let a = int_le (pos 1) rho in let b = int_le (pos 0) mu in
    let d = list_all (mark_test g fix) marks in
    let low = λ (play : List ℕ). int_le ((rho *ℤ cost g fix play) -ℤ regret g fix marks play) mu in
    let Low : List ℕ → Type 0 = λ play. ((rho *ℤ cost g fix play) -ℤ regret g fix marks play) ≤ℤ mu in
    let e = list_all low (legal_plays g) in
    Decides-like (plays_test g fix rho mu marks)
    (λ k. record { rho_positive = k.0.0; mu_nonneg = k.0.1; marks_of = k.1.0; each = k.1.1 })
    (λ (is : IsPlaysFact g fix rho mu marks). ((is.rho_positive, is.mu_nonneg), (is.marks_of, is.each)))
    (Decides-and (a && b) (d && e) (Decides-and a b (Decides-le_z (pos 1) rho) (Decides-le_z (pos 0) mu))
    (Decides-and d e (Decides-all (mark_test g fix) (IsMarkOf g fix) (Decides-mark g fix) marks)
    (Decides-listed (IsLegal g) (legal_plays g) (legal_plays-legal g) (legal_plays-complete g) low Low (λ play. Decides-le_z ((rho *ℤ cost g fix play) -ℤ regret g fix marks play) mu))))

abbrev line_test : Game → Fix → Line → Bool
line_test g fix line = nat_le 1 line.row && (nat_le line.row (length (table_rows g fix)) && int_le (pos 1) line.v)

Decides-line : (g : Game) (fix : Fix) (line : Line) → Decides (line_test g fix line) (IsLineOf g fix line)
Decides-line g fix line =
    let a = nat_le 1 line.row in let b = nat_le line.row (length (table_rows g fix)) in let d = int_le (pos 1) line.v in
    Decides-like (line_test g fix line)
    (λ k. record { from_one = k.0; in_range = k.1.0; positive = k.1.1 })
    (λ (is : IsLineOf g fix line). (is.from_one, (is.in_range, is.positive)))
    (Decides-and a (b && d) (Decides-le 1 line.row) (Decides-and b d (Decides-le line.row (length (table_rows g fix))) (Decides-le_z (pos 1) line.v)))

Decides-security : (k : Kind) → Decides (not (is_kind_matrix k)) (k ≡ Security)
Decides-security Security = (λ _. refl, λ _. refl)
Decides-security Matrix = (λ e. absurd (true≢false (sym e)), λ h. absurd (true≢false (ap is_kind_matrix h)))

abbrev column_side : Game → Fix → ℤ → List Line → Column → ℤ
column_side g fix mu lines c = (mu *ℤ entry g fix whole c) +ℤ total (λ (line : Line). line.v *ℤ entry g fix (row_of g fix line) c) lines

abbrev cover_test : Game → Fix → (rho mu : ℤ) → List Line → Bool
cover_test g fix rho mu lines =
    not (is_matrix g)
    && ((int_le (pos 1) rho && int_le (pos 0) mu)
    && (list_all (line_test g fix) lines && list_all (λ c. int_le (rho *ℤ column_cost g fix c) (column_side g fix mu lines c)) (columns g)))

Decides-cover : (g : Game) (fix : Fix) (rho mu : ℤ) (lines : List Line) → Decides (cover_test g fix rho mu lines) (IsCoverFact g fix rho mu lines)
Decides-cover g fix rho mu lines =
    let a = int_le (pos 1) rho in let b = int_le (pos 0) mu in
    let d = list_all (line_test g fix) lines in
    let low = λ (c : Column). int_le (rho *ℤ column_cost g fix c) (column_side g fix mu lines c) in
    let Low : Column → Type 0 = λ c. (rho *ℤ column_cost g fix c) ≤ℤ column_side g fix mu lines c in
    let e = list_all low (columns g) in
    Decides-like (cover_test g fix rho mu lines)
    (λ k. record { security = k.0; rho_positive = k.1.0.0; mu_nonneg = k.1.0.1; lines_of = k.1.1.0; each = k.1.1.1 })
    (λ (is : IsCoverFact g fix rho mu lines). (is.security, ((is.rho_positive, is.mu_nonneg), (is.lines_of, is.each))))
    (Decides-and (not (is_matrix g)) ((a && b) && (d && e)) (Decides-security g.kind)
    (Decides-and (a && b) (d && e) (Decides-and a b (Decides-le_z (pos 1) rho) (Decides-le_z (pos 0) mu))
    (Decides-and d e (Decides-all (line_test g fix) (IsLineOf g fix) (Decides-line g fix) lines)
    (Decides-listed (IsColumn g) (columns g) (columns-are g) (columns-inside g) low Low (λ c. Decides-le_z (rho *ℤ column_cost g fix c) (column_side g fix mu lines c))))))

abbrev fact_test : Game → Fix → Fact → Bool
fact_test g fix (Plays rho mu marks) = plays_test g fix rho mu marks
fact_test g fix (Cover rho mu lines) = cover_test g fix rho mu lines
fact_test g fix (Water level why) = false

Decides-fact : (g : Game) (fix : Fix) (f : Fact) → Decides (fact_test g fix f) (HoldsFor g fix f)
Decides-fact g fix (Plays rho mu marks) = Decides-plays g fix rho mu marks
Decides-fact g fix (Cover rho mu lines) = Decides-cover g fix rho mu lines
Decides-fact g fix (Water level why) = Decides-none false refl

-- ---- levels

abbrev reason_test : Game → ℤ → ℤ → Level → Bool
reason_test g num den Resources = nat_le 1 (length (at_level g num den)) && int_eq (total (share g num den) (at_level g num den)) ((pos (resource_count g) *ℤ den) *ℤ g.scale)
reason_test g num den (Target j) = nat_le 1 j && (nat_le j (length g.goals) && int_eq ((payoff g 1 j).ac *ℤ den) num)

Decides-some : {X : Type 0} (xs : List X) → Decides (nat_le 1 (length xs)) (xs ≢ [])
Decides-some [] = (λ e. absurd (true≢false (sym e)), λ h. absurd (h refl))
Decides-some (x ∷ xs) = (λ e. λ none. let n : suc (length xs) ≡ 0 = ap length none in omega (arith, n), λ h. (Decides-le 1 (suc (length xs))).1 (omega arith))

Decides-reason : (g : Game) (num den : ℤ) (why : Level) → Decides (reason_test g num den why) (IsLevelFor g num den why)
Decides-reason g num den Resources =
    let a = nat_le 1 (length (at_level g num den)) in let b = int_eq (total (share g num den) (at_level g num den)) ((pos (resource_count g) *ℤ den) *ℤ g.scale) in
    Decides-like (a && b) (λ k. record { some = k.0; sum = k.1 }) (λ (is : SpendsAll g num den). (is.some, is.sum))
    (Decides-and a b (Decides-some (at_level g num den)) (Decides-int_eq (total (share g num den) (at_level g num den)) ((pos (resource_count g) *ℤ den) *ℤ g.scale)))
Decides-reason g num den (Target j) =
    let a = nat_le 1 j in let b = nat_le j (length g.goals) in let d = int_eq ((payoff g 1 j).ac *ℤ den) num in
    Decides-like (a && (b && d)) (λ k. record { from_one = k.0; in_range = k.1.0; pays = k.1.1 }) (λ (is : IsFullyCovered g num den j). (is.from_one, (is.in_range, is.pays)))
    (Decides-and a (b && d) (Decides-le 1 j) (Decides-and b d (Decides-le j (length g.goals)) (Decides-int_eq ((payoff g 1 j).ac *ℤ den) num)))

abbrev water_test : Game → ℤ → ℤ → Level → Bool
water_test g num den why = int_le (pos 1) den && reason_test g num den why

Decides-water : (g : Game) (num den : ℤ) (why : Level) → Decides (water_test g num den why) (IsWater g num den why)
Decides-water g num den why =
    Decides-like (water_test g num den why) (λ k. record { positive = k.0; level = k.1 }) (λ (is : IsWater g num den why). (is.positive, is.level))
    (Decides-and (int_le (pos 1) den) (reason_test g num den why) (Decides-le_z (pos 1) den) (Decides-reason g num den why))

abbrev level_test : Game → Node → Bool
level_test g (closed (Water level why)) = water_test g level.num level.den why
level_test g t = false

Decides-level : (g : Game) (t : Node) → Decides (level_test g t) (IsWaterTree g t)
Decides-level g unproved = Decides-none false refl
Decides-level g (split l base parts) = Decides-none false refl
Decides-level g (closed (Plays rho mu marks)) = Decides-none false refl
Decides-level g (closed (Cover rho mu lines)) = Decides-none false refl
Decides-level g (closed (Water level why)) = Decides-water g level.num level.den why

-- ---- the root

abbrev water_root : Node → Bool
water_root (closed (Water level why)) = true
water_root t = false

Decides-water_root : (t : Node) → Decides (water_root t) (IsWaterRoot t)
Decides-water_root unproved = Decides-none false refl
Decides-water_root (split l base parts) = Decides-none false refl
Decides-water_root (closed (Plays rho mu marks)) = Decides-none false refl
Decides-water_root (closed (Cover rho mu lines)) = Decides-none false refl
Decides-water_root (closed (Water level why)) = (λ e. tt, λ h. refl)

abbrev split_root : Node → Bool
split_root (split l None parts) = true
split_root t = false

Decides-split_root : (t : Node) → Decides (split_root t) (IsRoot t)
Decides-split_root unproved = Decides-none false refl
Decides-split_root (closed f) = Decides-none false refl
Decides-split_root (split l (Some f) parts) = Decides-none false refl
Decides-split_root (split l None parts) = (λ e. tt, λ h. refl)

-- ---- caps

abbrev shape_test : Game → ℕ → ℤ → List Fact → Bool
shape_test g l v [] = int_eq v (greatest_of g l)
shape_test g l v (f ∷ fs) = eqb (length (f ∷ fs)) (action_count g l)

Decides-shape : (g : Game) (l : ℕ) (v : ℤ) (fs : List Fact) → Decides (shape_test g l v fs) (IsCapShape g l v fs)
Decides-shape g l v [] = Decides-int_eq v (greatest_of g l)
Decides-shape g l v (f ∷ fs) = Decides-eqb (length (f ∷ fs)) (action_count g l)

abbrev within_test : Game → ℕ → ℤ → Fact → Bool
within_test g l v f = int_eq (mu_of f) (pos 0) || int_le (mu_of f) (rho_of f *ℤ ((attacker g l).prior *ℤ (v +ℤ shift_of g)))

Decides-within : (g : Game) (l : ℕ) (v : ℤ) (f : Fact) → Decides (within_test g l v f) (IsUnderCap g l v f)
Decides-within g l v f =
    Decides-or (int_eq (mu_of f) (pos 0)) (int_le (mu_of f) (rho_of f *ℤ ((attacker g l).prior *ℤ (v +ℤ shift_of g)))) (Decides-int_eq (mu_of f) (pos 0))
    (Decides-le_z (mu_of f) (rho_of f *ℤ ((attacker g l).prior *ℤ (v +ℤ shift_of g))))

abbrev cap_test : Game → ℕ → Cap → Bool
cap_test g l c = nat_le l (length g.types) && (eqb c.l l && shape_test g l c.v c.proof)

Decides-cap : (g : Game) (l : ℕ) (c : Cap) → Decides (cap_test g l c) ((l ≤ length g.types) × (c.l ≡ l) × IsCapShape g l c.v c.proof)
Decides-cap g l c =
    let a = nat_le l (length g.types) in let b = eqb c.l l in let d = shape_test g l c.v c.proof in
    Decides-like (cap_test g l c) (λ k. (k.0, k.1.0, k.1.1)) (λ k. (k.0, (k.1, k.2)))
    (Decides-and a (b && d) (Decides-le l (length g.types)) (Decides-and b d (Decides-eqb c.l l) (Decides-shape g l c.v c.proof)))

-- ---- splits, values and bounds

abbrev fork_test : Game → List ℕ → ℕ → ℕ → Bool
fork_test g acts l count = eqb l (length acts + 1) && (nat_le l (length g.types) && eqb count (action_count g l))

Decides-fork : (g : Game) (acts : List ℕ) (l count : ℕ) → Decides (fork_test g acts l count) ((l ≡ length acts + 1) × (l ≤ length g.types) × (count ≡ action_count g l))
Decides-fork g acts l count =
    let a = eqb l (length acts + 1) in let b = nat_le l (length g.types) in let d = eqb count (action_count g l) in
    Decides-like (fork_test g acts l count) (λ k. (k.0, k.1.0, k.1.1)) (λ k. (k.0, (k.1, k.2)))
    (Decides-and a (b && d) (Decides-eqb l (length acts + 1)) (Decides-and b d (Decides-le l (length g.types)) (Decides-eqb count (action_count g l))))

abbrev value_test : Game → List Ticket → ℤ → ℤ → Bool
value_test g k num den = int_le (pos 1) den && int_eq (worth g k *ℤ den) ((num *ℤ weight_total k) *ℤ prior_total g)

Decides-value : (g : Game) (k : List Ticket) (num den : ℤ) → Decides (value_test g k num den) (IsValue g k num den)
Decides-value g k num den =
    let a = int_le (pos 1) den in let b = int_eq (worth g k *ℤ den) ((num *ℤ weight_total k) *ℤ prior_total g) in
    Decides-like (a && b) (λ e. record { positive = e.0; same = e.1 }) (λ (is : IsValue g k num den). (is.positive, is.same))
    (Decides-and a b (Decides-le_z (pos 1) den) (Decides-int_eq (worth g k *ℤ den) ((num *ℤ weight_total k) *ℤ prior_total g)))

abbrev below_test : Fraction → Fraction → Bool
below_test a b = int_le (a.num *ℤ b.den) (b.num *ℤ a.den)

abbrev same_test : Fraction → Fraction → Bool
same_test a b = int_eq (a.num *ℤ b.den) (b.num *ℤ a.den)

Decides-same : (a b : Fraction) → Decides (same_test a b) (IsSame a b)
Decides-same a b = Decides-int_eq (a.num *ℤ b.den) (b.num *ℤ a.den)

abbrev greatest_test : Fraction → List Fraction → Bool
greatest_test b bs = list_all (λ x. below_test x b) bs && list_any (λ x. same_test x b) bs

Decides-greatest : (b : Fraction) (bs : List Fraction) → Decides (greatest_test b bs) (IsGreatest b bs)
Decides-greatest b bs =
    let a = list_all (λ x. below_test x b) bs in let d = list_any (λ x. same_test x b) bs in
    Decides-like (a && d) (λ k. record { bounds = k.0; reached = k.1 }) (λ (is : IsGreatest b bs). (is.bounds, is.reached))
    (Decides-and a d (Decides-all (λ x. below_test x b) (λ x. IsNotAbove x b) (λ x. Decides-le_z (x.num *ℤ b.den) (b.num *ℤ x.den)) bs) (Decides-any (λ x. same_test x b) (λ x. IsSame x b) (λ x. Decides-same x b) bs))

-- ---- common divisors

abbrev divides : ℕ → Ticket → Bool
divides d x = eqb (unsigned_abs x.weight % d) 0

Decides-divides : (d : ℕ) (x : Ticket) → Decides (divides d x) (d ∣ unsigned_abs x.weight)
Decides-divides d x =
    Decides-like (divides d x) (λ e. dvd_of_mod-eq-zero d e) (λ h. mod-eq-zero_of_dvd d h) (Decides-eqb (unsigned_abs x.weight % d) 0)

cases_le : (a b : ℕ) → (a ≤ b) ⊎ (b < a)
cases_le a b = by (nat_le a b) (Decides-le a b)
  where
    by : (t : Bool) → Decides t (a ≤ b) → (a ≤ b) ⊎ (b < a)
    by true d = inl (d.0 refl)
    by false d = inr (let h : (a ≤ b) → ⊥ = λ le. true≢false (sym (d.1 le)) in omega (arith, h))

-- the lesser of two numbers that aren't 0
abbrev lesser : ℕ → ℕ → ℕ
lesser zero b = b
lesser (suc a) zero = suc a
lesser (suc a) (suc b) = cond (nat_le a b) (suc a) (suc b)

-- the least weight that isn't 0, or 0
abbrev size : List Ticket → ℕ
size [] = 0
size (x ∷ xs) = lesser (unsigned_abs x.weight) (size xs)

abbrev AllDivided : ℕ → List Ticket → Type 0
AllDivided d k = All (λ (x : Ticket). d ∣ unsigned_abs x.weight) k

divides-either : (d x y : ℕ) (b : Bool) → d ∣ x → d ∣ y → d ∣ cond b x y
divides-either d x y true h k = h
divides-either d x y false h k = k

divides-lesser : (d a b : ℕ) → d ∣ a → d ∣ b → d ∣ lesser a b
divides-lesser d zero b h k = k
divides-lesser d (suc a) zero h k = h
divides-lesser d (suc a) (suc b) h k = divides-either d (suc a) (suc b) (nat_le a b) h k

divides-size : (d : ℕ) (xs : List Ticket) → AllDivided d xs → d ∣ size xs
divides-size d [] all = dvd-zero d
divides-size d (x ∷ xs) all =
    let P : Ticket → Type 0 = λ x. d ∣ unsigned_abs x.weight in
    divides-lesser d (unsigned_abs x.weight) (size xs) (All-head P x xs all) (divides-size d xs (All-tail P x xs all))

either-none : (b : Bool) (x y : ℕ) → cond b (suc x) (suc y) ≡ 0 → ⊥
either-none true x y e = omega (arith, e)
either-none false x y e = omega (arith, e)

lesser-none : (a b : ℕ) → lesser a b ≡ 0 → (a ≡ 0) × (b ≡ 0)
lesser-none zero b e = (refl, e)
lesser-none (suc a) zero e = absurd (omega (arith, e))
lesser-none (suc a) (suc b) e = absurd (either-none (nat_le a b) a b e)

two-divides : (xs : List Ticket) → size xs ≡ 0 → AllDivided 2 xs
two-divides [] e = All-nil (λ (x : Ticket). 2 ∣ unsigned_abs x.weight)
two-divides (x ∷ xs) e =
    let n = lesser-none (unsigned_abs x.weight) (size xs) e in
    All-cons (λ (x : Ticket). 2 ∣ unsigned_abs x.weight) x xs (subst (λ (m : ℕ). 2 ∣ m) (sym n.0) (dvd-zero 2)) (two-divides xs n.1)

-- no number past a number that isn't 0 divides it
past-none : (d n : ℕ) → 1 ≤ n → d ∣ n → (1 ≤ d) × (d ≤ n)
past-none zero n some h = let e : n ≡ 0 = dvd_antisymm (dvd-zero n) h in absurd (omega (arith, e, some))
past-none (suc d) n some h = let le : suc d ≤ n = le_of_dvd some h in (omega arith, le)

abbrev alone_test : List Ticket → ℕ → Bool
alone_test k d = not (list_all (divides d) k) || eqb d 1

abbrev lowest_test : List Ticket → Bool
lowest_test k = nat_le 1 (size k) && list_all (alone_test k) (numbers (size k))

Decides-alone : (k : List Ticket) (d : ℕ) → Decides (alone_test k d) (AllDivided d k → d ≡ 1)
Decides-alone k d = by (list_all (divides d) k) (eqb d 1) (Decides-all (divides d) (λ (x : Ticket). d ∣ unsigned_abs x.weight) (Decides-divides d) k) (Decides-eqb d 1)
  where
    by : (x y : Bool) → Decides x (AllDivided d k) → Decides y (d ≡ 1) → Decides (not x || y) (AllDivided d k → d ≡ 1)
    by true y h e = (λ f _. e.0 f, λ f. e.1 (f (h.0 refl)))
    by false y h e = (λ _ all. absurd (true≢false (sym (h.1 all))), λ _. refl)

Decides-lowest : (k : List Ticket) → Decides (lowest_test k) (AreLowest k)
Decides-lowest k =
    Decides-like (lowest_test k) there back
    (Decides-and (nat_le 1 (size k)) (list_all (alone_test k) (numbers (size k))) (Decides-le 1 (size k)) (Decides-numbers (alone_test k) (λ d. AllDivided d k → d ≡ 1) (Decides-alone k) (size k)))
  where
    there : (1 ≤ size k) × ((d : ℕ) → 1 ≤ d → d ≤ size k → AllDivided d k → d ≡ 1) → AreLowest k
    there h d all = let r = past-none d (size k) h.0 (divides-size d k all) in h.1 d r.0 r.1 all

    back : AreLowest k → (1 ≤ size k) × ((d : ℕ) → 1 ≤ d → d ≤ size k → AllDivided d k → d ≡ 1)
    back h = (
      elim (cases_le 1 (size k)) [
        | inl le ↦ le
        | inr lt ↦ (let e : 2 ≡ 1 = h 2 (two-divides k (omega (arith, lt))) in absurd (omega (arith, e)))
      ],
      λ d low high. h d,
    )

-- ---- the tests of a report

abbrev pub passes : Game → Report → Node → Test → Bool
passes g r t (legal play) = legal_test g play
passes g r t weights_fit = list_all fits (weight_sums r.tickets.tickets)
passes g r t totalled = int_eq r.tickets.total (weight_total r.tickets.tickets)
passes g r t lowest = lowest_test r.tickets.tickets
passes g r t value_fits = list_all fits (value_sums g r.tickets.tickets)
passes g r t valued = value_test g r.tickets.tickets r.value.num r.value.den
passes g r t (capped l c) = cap_test g l c
passes g r t (cap_within l v fs) = list_all (within_test g l v) fs
passes g r t caps_end = eqb (length r.caps + 1) (length g.types)
passes g r t rooted = cond (is_scaled g) (water_root t) (split_root t)
passes g r t leveled = level_test g t
passes g r t (forks acts l count) = fork_test g acts l count
passes g r t (sized fix f) = list_all fits (size_sums g fix f)
passes g r t (holds fix f) = fact_test g fix f
passes g r t (bounded n f) = list_all fits (bound_sums g r.caps n f)
passes g r t topped = greatest_test r.upper (r.value ∷ tree_bounds_of g r.caps t)
passes g r t judged = cond (is_optimal r.ending) (same_test r.value r.upper) (not (same_test r.value r.upper))

Decides-fits : (xs : List ℤ) → Decides (list_all fits xs) (All Fits xs)
Decides-fits xs = Decides-all fits Fits (λ z. (λ e. e, λ e. e)) xs

pub Decides-passes : (g : Game) (r : Report) (test : Test) → Decides (passes g r (node_of r.tree) test) (Passes g r test)
Decides-passes g r (legal play) = Decides-legal g play
Decides-passes g r weights_fit = Decides-fits (weight_sums r.tickets.tickets)
Decides-passes g r totalled = Decides-int_eq r.tickets.total (weight_total r.tickets.tickets)
Decides-passes g r lowest = Decides-lowest r.tickets.tickets
Decides-passes g r value_fits = Decides-fits (value_sums g r.tickets.tickets)
Decides-passes g r valued = Decides-value g r.tickets.tickets r.value.num r.value.den
Decides-passes g r (capped l c) = Decides-cap g l c
Decides-passes g r (cap_within l v fs) = Decides-all (within_test g l v) (IsUnderCap g l v) (Decides-within g l v) fs
Decides-passes g r caps_end = Decides-eqb (length r.caps + 1) (length g.types)
Decides-passes g r rooted = Decides-if (is_scaled g) (water_root (node_of r.tree)) (split_root (node_of r.tree)) (Decides-water_root (node_of r.tree)) (Decides-split_root (node_of r.tree))
Decides-passes g r leveled = Decides-level g (node_of r.tree)
Decides-passes g r (forks acts l count) = Decides-fork g acts l count
Decides-passes g r (sized fix f) = Decides-fits (size_sums g fix f)
Decides-passes g r (holds fix f) = Decides-fact g fix f
Decides-passes g r (bounded n f) = Decides-fits (bound_sums g r.caps n f)
Decides-passes g r topped = Decides-greatest r.upper (r.value ∷ tree_bounds_of g r.caps (node_of r.tree))
Decides-passes g r judged = Decides-iff (is_optimal r.ending) (same_test r.value r.upper) (Decides-same r.value r.upper)
