-- The list of legal plays: all of them, each once, in the order of lists, and as many as the number of plays says.
use Rattle.std.proofs.Common.{◌≡◌, ◌≢◌, ℕ, zero, suc, ◌+◌, ◌*◌, ◌<◌, ◌≤◌, Bool, true, false, cond, if◌then◌else◌, List, [], ◌∷◌, ◌++◌, map, length, subst, refl, sym, ap, ◌∙◌, arith, MatchBool, nat_eq, slice_index, slice_index_or, flat_map, inl, inr}
use Rattle.std.specs.List.{All, AllPairs, Contains}
use Rattle.std.specs.Cmp.Lexicographic.{bytes_decides, pointwise}
use Rattle.std.proofs.lemmas.Cmp.{nat_list_eq_equiv}
use Rattle.std.proofs.lemmas.List.{length-map}
use Rattle.std.proofs.lemmas.List.Elements.{All-nil, All-cons, All-contains, All-map}
use Rattle.std.proofs.lemmas.List.Kept.{AllPairs-cons}
use Rattle.std.proofs.lemmas.Map.Made.{IsDistinct-from_AllPairs, length-le_from_is_member}
use Rattle.sg_model.specs.Sums.{numbers, numbers_from}
use Rattle.sg_model.specs.Games.{Game, is_matrix, resource_count, resource_schedules}
use Rattle.sg_model.specs.Orders.{IsBefore}
use Rattle.sg_model.specs.Plays.{IsLegal, IsLegalJoint, IsRow}
use Rattle.sg_model.specs.PlayLists.{choices_from, choices_of, joint_plays, legal_plays, play_count}
use Rattle.sg_model.specs.PlayListLaws.{AreAllPlays, LegalPlaysAreAll, LegalPlaysAreCounted, LegalPlaysRise, PlaysAreCounted}
use Rattle.sg_model.proofs.Before.{Lesser, before-apart, pairs-flat_map, pairs-map, pairs-none, pairs-weaken, rise-numbers_from}
use Rattle.sg_model.proofs.Decided.{Decides-any}
use Rattle.sg_model.proofs.Greatest.{Contains-head}
use Rattle.sg_model.proofs.Lists.{All-flat_map, length-flat_map-same}
use Rattle.sg_model.proofs.Numbers.{All-numbers, All-numbers_from, length-numbers_from}
use Rattle.sg_model.proofs.Payoffs.{Contains-flat_map, Contains-map, Contains-numbers, Contains-numbers_from}

-- ---- all of them

abbrev row_plays : Game → List (List ℕ)
row_plays g = map (λ row. row ∷ []) (numbers (length g.goals))

-- so many choices, each in the list of its resource
record IsJoint (g : Game) (r n : ℕ) (play : List ℕ) : Type 0 where
  pub one_each : length play ≡ n
  pub in_list : (k : ℕ) → k < length play → slice_index play k ≤ length (resource_schedules g (k + r))

joint-cons : (g : Game) (r n c : ℕ) (cs : List ℕ) → c ≤ length (resource_schedules g r) → IsJoint g (r + 1) n cs → IsJoint g r (suc n) (c ∷ cs)
joint-cons g r n c cs here rest = record { one_each = omega (arith, rest.one_each); in_list = at }
  where
    at : (k : ℕ) → k < length (c ∷ cs) → slice_index (c ∷ cs) k ≤ length (resource_schedules g (k + r))
    at zero lt = let e : r ≡ 0 + r = omega arith in subst (λ (s : ℕ). c ≤ length (resource_schedules g s)) e here
    at (suc k) lt = let e : k + (r + 1) ≡ suc k + r = omega arith in subst (λ (s : ℕ). slice_index cs k ≤ length (resource_schedules g s)) e (rest.in_list k (omega arith))

joint-are : (g : Game) (r n : ℕ) → All (IsJoint g r n) (joint_plays g r n)
joint-are g r zero = All-cons (IsJoint g r zero) [] [] (record { one_each = refl; in_list = λ k lt. absurd (omega (arith, lt)) }) (All-nil (IsJoint g r zero))
joint-are g r (suc n) =
    let m : ℕ = length (resource_schedules g r) in
    let rest = joint-are g (r + 1) n in
    All-flat_map (IsJoint g r (suc n)) (λ c. map (λ cs. c ∷ cs) (joint_plays g (r + 1) n)) (numbers_from 0 (m + 1))
    (All-numbers_from (λ c. All (IsJoint g r (suc n)) (map (λ cs. c ∷ cs) (joint_plays g (r + 1) n))) 0 (m + 1)
    (λ c low high. All-map (IsJoint g r (suc n)) (λ cs. c ∷ cs) (joint_plays g (r + 1) n)
    (λ i d lt. joint-cons g r n c (slice_index_or (joint_plays g (r + 1) n) i d) (omega (arith, high)) (rest i d lt))))

joint-inside : (g : Game) (r n : ℕ) (play : List ℕ) → IsJoint g r n play → Contains (joint_plays g r n) play
joint-inside g r zero [] is = Contains-head [] []
joint-inside g r zero (c ∷ cs) is = absurd (omega (arith, is.one_each))
joint-inside g r (suc n) [] is = absurd (omega (arith, is.one_each))
joint-inside g r (suc n) (c ∷ cs) is =
    let m : ℕ = length (resource_schedules g r) in
    let e : 0 + r ≡ r = omega arith in
    let here : c ≤ m = subst (λ (s : ℕ). c ≤ length (resource_schedules g s)) e (is.in_list 0 (omega arith)) in
    let rest : IsJoint g (r + 1) n cs =
    record { one_each = omega (arith, is.one_each); in_list = λ k lt. let f : suc k + r ≡ k + (r + 1) = omega arith in subst (λ (s : ℕ). slice_index cs k ≤ length (resource_schedules g s)) f (is.in_list (suc k) (omega arith)) } in
    Contains-flat_map (λ c. map (λ cs. c ∷ cs) (joint_plays g (r + 1) n)) (numbers_from 0 (m + 1)) c (c ∷ cs) (Contains-numbers_from 0 (m + 1) c (omega arith) (omega (arith, here)))
    (Contains-map (λ cs. c ∷ cs) (joint_plays g (r + 1) n) cs (joint-inside g (r + 1) n cs rest))

row-inside : (g : Game) (play : List ℕ) → IsRow g play → Contains (row_plays g) play
row-inside g [] is = absurd (omega (arith, is.one))
row-inside g (c ∷ []) is = Contains-map (λ r. r ∷ []) (numbers (length g.goals)) c (Contains-numbers (length g.goals) c is.from_one is.in_list)
row-inside g (c ∷ d ∷ cs) is = absurd (omega (arith, is.one))

pub legal_plays-legal : (g : Game) → All (IsLegal g) (legal_plays g)
legal_plays-legal g =
    elim (is_matrix g) as (λ (b : Bool). All (λ play. MatchBool b (IsRow g play) (IsLegalJoint g play)) (cond b (row_plays g) (joint_plays g 1 (resource_count g)))) [
      | true ↦ All-map (IsRow g) (λ r. r ∷ []) (numbers (length g.goals)) (All-numbers (λ r. IsRow g (r ∷ [])) (length g.goals) (λ r low high. record { one = refl; from_one = low; in_list = high }))
      | false ↦ (λ i d lt. let is = joint-are g 1 (resource_count g) i d lt in record { one_each = is.one_each; in_list = is.in_list })
    ]

pub legal_plays-complete : (g : Game) (play : List ℕ) → IsLegal g play → Contains (legal_plays g) play
legal_plays-complete g play legal =
    elim (is_matrix g) as (λ (b : Bool). MatchBool b (IsRow g play) (IsLegalJoint g play) → Contains (cond b (row_plays g) (joint_plays g 1 (resource_count g))) play) [
      | true ↦ (λ is. row-inside g play is)
      | false ↦ (λ is. joint-inside g 1 (resource_count g) play (record { one_each = is.one_each; in_list = is.in_list }))
    ] legal

-- ---- in order

-- each list, behind a choice
abbrev begun : List (List ℕ) → ℕ → List (List ℕ)
begun rest c = map (λ cs. c ∷ cs) rest

rise-begun : (rest : List (List ℕ)) → AllPairs IsBefore rest → (a n : ℕ) → AllPairs IsBefore (flat_map (begun rest) (numbers_from a n))
rise-begun rest h a n =
    pairs-flat_map IsBefore (begun rest) (λ b. pairs-map IsBefore IsBefore (λ cs. b ∷ cs) (λ x y before. inr (refl, before)) rest h)
    (λ b c lt. All-map (λ x. All (IsBefore x) (begun rest c)) (λ cs. b ∷ cs) rest (λ i d in_list. All-map (IsBefore (b ∷ slice_index_or rest i d)) (λ cs. c ∷ cs) rest (λ j e in_rest. inl lt))) a n

rise-joint : (g : Game) (r n : ℕ) → AllPairs IsBefore (joint_plays g r n)
rise-joint g r zero = AllPairs-cons IsBefore [] [] (All-nil (IsBefore [])) (pairs-none IsBefore)
rise-joint g r (suc n) = rise-begun (joint_plays g (r + 1) n) (rise-joint g (r + 1) n) 0 (length (resource_schedules g r) + 1)

pub legal_plays_rise : LegalPlaysRise
legal_plays_rise g =
    elim (is_matrix g) as (λ (b : Bool). AllPairs IsBefore (cond b (row_plays g) (joint_plays g 1 (resource_count g)))) [
      | true ↦ pairs-map Lesser IsBefore (λ row. row ∷ []) (λ x y before. inl before) (numbers (length g.goals)) (rise-numbers_from 1 (length g.goals))
      | false ↦ rise-joint g 1 (resource_count g)
    ]

pub legal_plays_are_all : LegalPlaysAreAll
legal_plays_are_all g = record {
  legal = legal_plays-legal g;
  distinct = pairs-weaken IsBefore (λ x y. x ≢ y) before-apart (legal_plays g) (legal_plays_rise g);
  complete = legal_plays-complete g;
}

-- ---- how many

length-joint : (g : Game) (r n : ℕ) → length (joint_plays g r n) ≡ choices_from g r n
length-joint g r zero = refl
length-joint g r (suc n) =
    let rest = joint_plays g (r + 1) n in
    let m = length (resource_schedules g r) in
    let count = length-flat_map-same (λ c. map (λ cs. c ∷ cs) rest) (length rest) (λ c. length-map rest (λ cs. c ∷ cs)) (numbers_from 0 (m + 1)) in
    let swap : m + 1 ≡ 1 + m = omega arith in
    count ∙ ap (λ k. k * length rest) (length-numbers_from 0 (m + 1) ∙ swap) ∙ ap (λ k. (1 + m) * k) (length-joint g (r + 1) n)

pub legal_plays_are_counted : LegalPlaysAreCounted
legal_plays_are_counted g =
    elim (is_matrix g) as (λ (b : Bool). length (cond b (row_plays g) (joint_plays g 1 (resource_count g))) ≡ (if b then length g.goals else choices_from g 1 (resource_count g))) [
      | true ↦ length-map (numbers (length g.goals)) (λ row. row ∷ []) ∙ length-numbers_from 1 (length g.goals)
      | false ↦ length-joint g 1 (resource_count g)
    ]

-- of two lists of all plays neither is longer
length-le : (g : Game) (xs ys : List (List ℕ)) → AreAllPlays g xs → AreAllPlays g ys → length xs ≤ length ys
length-le g xs ys h k =
    length-le_from_is_member nat_list_eq_equiv xs ys (IsDistinct-from_AllPairs bytes_decides xs h.distinct)
    (λ q inside.
    let found = (Decides-any (pointwise nat_eq q) (λ x. q ≡ x) (bytes_decides q) xs).0 inside in
    (Decides-any (pointwise nat_eq q) (λ x. q ≡ x) (bytes_decides q) ys).1 (found.0, k.complete found.0 (All-contains (IsLegal g) xs found.0 h.legal found.1), found.2))

pub plays_are_counted : PlaysAreCounted
plays_are_counted g plays h =
    let least = length-le g (legal_plays g) plays (legal_plays_are_all g) h in
    let most = length-le g plays (legal_plays g) h (legal_plays_are_all g) in
    omega (arith, least, most, legal_plays_are_counted g)
