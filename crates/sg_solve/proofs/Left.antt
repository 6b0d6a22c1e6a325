-- Fewer events are left after each.
use Rattle.std.proofs.Common.{◌≡◌, ◌∙◌, ℕ, zero, suc, ◌+◌, ◌-◌, ◌*◌, ◌<◌, ◌≤◌, Bool, true, false, List, [], ◌∷◌, ◌++◌, length, map, set, get_or, count_by, is_some, sum_by, sym, ap, subst, refl, arith, Option, Some, None, length-append}
use Rattle.std.proofs.lemmas.List.{length-map}
use Rattle.std.specs.Prelude.{if◌then◌else◌}
use Rattle.std.proofs.lemmas.List.Sums.{sum_by-set}
use Rattle.sg_tree.specs.declared.fix.Fix.{Fix}
use Rattle.sg_search.specs.declared.held.Held.{Held}
use Rattle.sg_search.specs.declared.event.Event.{Event}
use Rattle.sg_search.specs.declared.event.Event.TheVariants.{Begin, Finish, Turn}
use Rattle.sg_search.specs.Searches.{Search, Task, busy_count, lane_at}
use Rattle.sg_search.specs.CountLaws.{enough_nodes}
use Rattle.sg_search.specs.Changes.{Change, Goes, Holds, branches, ends, moves, sticks, takes, works}
use Rattle.sg_search.specs.Events.{IsOf, event_outcome, lane_of}
use Rattle.sg_search.proofs.Placed.{lane-set}
use Rattle.sg_work.specs.Works.{Load, held_by, load_at, with_load}
use Rattle.sg_lanes.specs.Machines.{LeavesLoads}
use Rattle.sg_solve.specs.UnderWay.{load_left, nodes_taken}

-- ---- the lane of a change is the event's, and one of the lanes

abbrev pub change-lane : Change → ℕ
change-lane (takes lane node) = lane
change-lane (branches lane acts) = lane
change-lane (moves lane) = lane
change-lane (ends lane) = lane
change-lane (works lane fact point) = lane
change-lane (sticks lane cause) = lane

pub lane-same : (p : Task) (s : Search) (e : Event) (c : Change) → IsOf p s e c → change-lane c ≡ lane_of e
lane-same p s (Begin lane n) (takes l node) of = of.0
lane-same p s (Begin lane n) (branches l acts) of = of.0
lane-same p s (Begin lane n) (moves l) of = absurd of
lane-same p s (Begin lane n) (ends l) of = absurd of
lane-same p s (Begin lane n) (works l fact point) of = absurd of
lane-same p s (Begin lane n) (sticks l cause) of = absurd of
lane-same p s (Turn lane) (takes l node) of = absurd of
lane-same p s (Turn lane) (branches l acts) of = absurd of
lane-same p s (Turn lane) (moves l) of = of
lane-same p s (Turn lane) (ends l) of = of
lane-same p s (Turn lane) (works l fact point) of = absurd of
lane-same p s (Turn lane) (sticks l cause) of = absurd of
lane-same p s (Finish lane) (takes l node) of = absurd of
lane-same p s (Finish lane) (branches l acts) of = absurd of
lane-same p s (Finish lane) (moves l) of = absurd of
lane-same p s (Finish lane) (ends l) of = absurd of
lane-same p s (Finish lane) (works l fact point) of = of
lane-same p s (Finish lane) (sticks l cause) of = of

pub record IsLane (s : Search) (lane : ℕ) : Type 0 where
  pub from_one : 1 ≤ lane
  pub in_range : lane ≤ length s.lanes

pub goes-lane : (p : Task) (s : Search) (c : Change) (t : Search) → Goes p s c t → IsLane s (change-lane c)
goes-lane p s (takes lane node) t goes = let f = goes.0.free in record { from_one = f.from_one; in_range = f.in_range }
goes-lane p s (branches lane acts) t goes = let f = goes.0.free in record { from_one = f.from_one; in_range = f.in_range }
goes-lane p s (moves lane) t goes = let h = goes.1 in record { from_one = h.from_one; in_range = h.in_range }
goes-lane p s (ends lane) t goes = let h = goes.1 in record { from_one = h.from_one; in_range = h.in_range }
goes-lane p s (works lane fact point) t goes = let h = goes.1 in record { from_one = h.from_one; in_range = h.in_range }
goes-lane p s (sticks lane cause) t goes = let h = goes.1 in record { from_one = h.from_one; in_range = h.in_range }

-- ---- how many nodes are taken

abbrev begun-by : Change → ℕ
begun-by (takes lane node) = 1
begun-by (branches lane acts) = 1
begun-by (moves lane) = 0
begun-by (ends lane) = 0
begun-by (works lane fact point) = 0
begun-by (sticks lane cause) = 0

taken-by : (p : Task) (s : Search) (c : Change) (t : Search) → Goes p s c t → nodes_taken t ≡ nodes_taken s + begun-by c
taken-by p s (takes lane node) t goes =
    let free = goes.0.free in
    let e = lane-set is_some s lane (Some (record { node = node; ended = false })) free.from_one free.in_range in
    let f : count_by is_some (set s.lanes (lane - 1) (Some (record { node = node; ended = false }))) + 0 ≡ busy_count s + 1 = rw free.nothing at e in
    subst (λ (u : Search). nodes_taken u ≡ nodes_taken s + 1) (sym goes.2) (omega (arith, f))
taken-by p s (branches lane acts) t goes =
    let free = goes.0.free in
    let h = Rattle.sg_search.specs.Changes.begun (Rattle.sg_search.specs.Changes.first_part acts) in
    let e = lane-set is_some s lane h free.from_one free.in_range in
    let f : count_by is_some (set s.lanes (lane - 1) h) + 0 ≡ busy_count s + 1 = rw free.nothing at e in
    subst (λ (u : Search). nodes_taken u ≡ nodes_taken s + 1) (sym goes.4) (omega (arith, f))
taken-by p s (moves lane) t goes = subst (λ (u : Search). nodes_taken u ≡ nodes_taken s + 0) (sym goes.2) (omega arith)
taken-by p s (ends lane) t goes =
    let h = goes.1 in
    let k : Option Held = Some (record { node = goes.0; ended = true }) in
    let e = lane-set is_some s lane k h.from_one h.in_range in
    let f : count_by is_some (set s.lanes (lane - 1) k) + 1 ≡ busy_count s + 1 = rw h.held at e in
    subst (λ (u : Search). nodes_taken u ≡ nodes_taken s + 0) (sym goes.2) (omega (arith, f))
taken-by p s (works lane fact point) t goes =
    let h = goes.1 in
    let e = lane-set is_some s lane None h.from_one h.in_range in
    let f : count_by is_some (set s.lanes (lane - 1) None) + 1 ≡ busy_count s + 0 = rw h.held at e in
    let l = length-append s.worked (record { fix = goes.0; fact = fact; point = point } ∷ []) in
    subst (λ (u : Search). nodes_taken u ≡ nodes_taken s + 0) (sym goes.2) (omega (arith, f, l))
taken-by p s (sticks lane cause) t goes =
    let h = goes.1 in
    let e = lane-set is_some s lane None h.from_one h.in_range in
    let f : count_by is_some (set s.lanes (lane - 1) None) + 1 ≡ busy_count s + 0 = rw h.held at e in
    let l = length-append s.stuck (record { node = goes.0; cause = cause } ∷ []) in
    subst (λ (u : Search). nodes_taken u ≡ nodes_taken s + 0) (sym goes.2) (omega (arith, f, l))

-- ---- how much is left of the loads

abbrev loads-left : ℕ → List (Option Load) → ℕ
loads-left most loads = sum_by (load_left most) loads

left-with : (most : ℕ) (loads : List (Option Load)) (lane : ℕ) (v w : Option Load) → 1 ≤ lane → lane ≤ length loads → load_at loads lane ≡ w
    → loads-left most (with_load loads lane v) + load_left most w ≡ loads-left most loads + load_left most v
left-with most loads zero v w low high is = absurd (omega (arith, low))
left-with most loads (suc k) v w low high is =
    let start : (suc k - 1) ≡ k = omega arith in
    let e = sum_by-set (load_left most) loads k v None (omega (arith, high)) in
    subst (λ (i : ℕ). sum_by (load_left most) (set loads i v) + load_left most w ≡ loads-left most loads + load_left most v) (sym start)
    (subst (λ (o : Option Load). sum_by (load_left most) (set loads k v) + load_left most o ≡ loads-left most loads + load_left most v) is e)

-- the load of a lane is what the search holds there
load-of-lane : (loads : List (Option Load)) (lanes : List (Option Held)) (lane : ℕ) → map held_by loads ≡ lanes → 1 ≤ lane → held_by (load_at loads lane) ≡ Rattle.sg_model.specs.Sums.nth lanes lane None
load-of-lane loads lanes zero same low = absurd (omega (arith, low))
load-of-lane loads lanes (suc k) same low = subst (λ hs. held_by (get_or loads k None) ≡ get_or hs k None) same (mapped loads k)
  where
    mapped : (ls : List (Option Load)) (i : ℕ) → held_by (get_or ls i None) ≡ get_or (map held_by ls) i None
    mapped [] i = refl
    mapped (l ∷ ls) zero = refl
    mapped (l ∷ ls) (suc i) = mapped ls i

no-load : (o : Option Load) → held_by o ≡ None → o ≡ None
no-load None e = refl
no-load (Some l) e = absurd cc

abbrev held-ended : Option Held → Bool → Bool
held-ended None d = d
held-ended (Some h) d = h.ended

abbrev held-node : Option Held → Fix → Fix
held-node None d = d
held-node (Some h) d = h.node

some-load : (o : Option Load) (node : Fix) (ended : Bool) → held_by o ≡ Some (record { node = node; ended = ended }) → (l : Load) × (o ≡ Some l) × (l.ended ≡ ended) × (l.node ≡ node)
some-load None node ended e = absurd cc
some-load (Some l) node ended e = (l, refl, ap (λ h. held-ended h false) e, ap (λ h. held-node h node) e)

one-load : (l k : Load) → Some l ≡ Some k → l ≡ k
one-load l k e = cc

left-going : (most : ℕ) (l : Load) → l.ended ≡ false → load_left most (Some l) ≡ most - l.moves + 2
left-going most l e = ap (λ (b : Bool). if b then 1 else most - l.moves + 2) e

left-ended : (most : ℕ) (l : Load) → l.ended ≡ true → load_left most (Some l) ≡ 1
left-ended most l e = ap (λ (b : Bool). if b then 1 else most - l.moves + 2) e

-- ---- less is left

-- a node more is taken, and what is left of it is less than what is counted for one that isn't taken
taken-less : (enough n m a b most : ℕ) → n + 1 ≤ enough → m ≡ n + 1 → a ≡ b + (most + 2) → (enough - m) * (most + 3) + a < (enough - n) * (most + 3) + b
taken-less enough n m a b most room e f =
    let d : ℕ = enough - m in
    let one : enough - n ≡ d + 1 = omega (arith, room, e) in
    subst (λ (k : ℕ). d * (most + 3) + a < k * (most + 3) + b) (sym one) (let q = add-one d (most + 3) in omega (arith, q, f))
  where
    add-one : (x y : ℕ) → (x + 1) * y ≡ x * y + y
    add-one x y = grind arith

same-less : (enough n m a b most : ℕ) → m ≡ n → a < b → (enough - m) * (most + 3) + a < (enough - n) * (most + 3) + b
same-less enough n m a b most e lt = subst (λ (k : ℕ). (enough - k) * (most + 3) + a < (enough - n) * (most + 3) + b) (sym e) (let q : ℕ = (enough - n) * (most + 3) in plus q a b lt)
  where
    plus : (q x y : ℕ) → x < y → q + x < q + y
    plus q x y h = omega (arith, h)

module _ (p : Task) (s : Search) (most : ℕ) (loads after : List (Option Load)) (same : map held_by loads ≡ s.lanes) where
  pub lengths : length loads ≡ length s.lanes
  lengths = sym (length-map loads held_by) ∙ ap length same

  free-load : (lane : ℕ) → 1 ≤ lane → lane_at s lane ≡ None → load_at loads lane ≡ None
  free-load lane low e = no-load (load_at loads lane) (load-of-lane loads s.lanes lane same low ∙ e)

  pub held-load : (lane : ℕ) (node : Fix) (ended : Bool) → Holds s lane node ended → (l : Load) × (load_at loads lane ≡ Some l) × (l.ended ≡ ended) × (l.node ≡ node)
  held-load lane node ended h = some-load (load_at loads lane) node ended (load-of-lane loads s.lanes lane same h.from_one ∙ h.held)

  pub less-left : (e : Event) (c : Change) (t : Search) → IsOf p s e c → Goes p s c t → LeavesLoads most loads e (event_outcome c) after → nodes_taken t ≤ enough_nodes p.game
      → (enough_nodes p.game - nodes_taken t) * (most + 3) + loads-left most after < (enough_nodes p.game - nodes_taken s) * (most + 3) + loads-left most loads
  less-left e (takes lane node) t of goes left enough =
      let same_lane = lane-same p s e (takes lane node) of in
      let free = goes.0.free in
      let low : 1 ≤ lane_of e = subst (λ k. 1 ≤ k) same_lane free.from_one in
      let high : lane_of e ≤ length loads = subst (λ k. lane_of e ≤ k) (sym lengths) (subst (λ k. k ≤ length s.lanes) same_lane free.in_range) in
      let none : load_at loads (lane_of e) ≡ None = free-load (lane_of e) low (subst (λ k. lane_at s k ≡ None) same_lane free.nothing) in
      let w = left-with most loads (lane_of e) (Some (record { node = node; moves = 0; ended = false })) None low high none in
      let a : loads-left most after ≡ loads-left most loads + (most + 2) = ap (loads-left most) left ∙ omega (arith, w) in
      let n = taken-by p s (takes lane node) t goes in
      taken-less (enough_nodes p.game) (nodes_taken s) (nodes_taken t) (loads-left most after) (loads-left most loads) most (omega (arith, n, enough)) n a
  less-left e (branches lane acts) t of goes left enough =
      let same_lane = lane-same p s e (branches lane acts) of in
      let free = goes.0.free in
      let low : 1 ≤ lane_of e = subst (λ k. 1 ≤ k) same_lane free.from_one in
      let high : lane_of e ≤ length loads = subst (λ k. lane_of e ≤ k) (sym lengths) (subst (λ k. k ≤ length s.lanes) same_lane free.in_range) in
      let none : load_at loads (lane_of e) ≡ None = free-load (lane_of e) low (subst (λ k. lane_at s k ≡ None) same_lane free.nothing) in
      let w = left-with most loads (lane_of e) (Some (record { node = Rattle.sg_search.specs.Changes.first_part acts; moves = 0; ended = false })) None low high none in
      let a : loads-left most after ≡ loads-left most loads + (most + 2) = ap (loads-left most) left ∙ omega (arith, w) in
      let n = taken-by p s (branches lane acts) t goes in
      taken-less (enough_nodes p.game) (nodes_taken s) (nodes_taken t) (loads-left most after) (loads-left most loads) most (omega (arith, n, enough)) n a
  less-left e (moves lane) t of goes left enough =
      let same_lane = lane-same p s e (moves lane) of in
      let h = goes.1 in
      let low : 1 ≤ lane_of e = subst (λ k. 1 ≤ k) same_lane h.from_one in
      let high : lane_of e ≤ length loads = subst (λ k. lane_of e ≤ k) (sym lengths) (subst (λ k. k ≤ length s.lanes) same_lane h.in_range) in
      let k = held-load (lane_of e) goes.0 false (subst (λ n. Holds s n goes.0 false) same_lane h) in
      let l : Load = left.0 in
      let going : l.ended ≡ false = ap (λ (x : Load). x.ended) (one-load l k.0 (sym left.1 ∙ k.1)) ∙ k.2 in
      let next : Load = record { node = l.node; moves = l.moves + 1; ended = l.ended } in
      let w = left-with most loads (lane_of e) (Some next) (Some l) low high left.1 in
      let x = left-going most l going in
      let y = left-going most next going in
      let a : loads-left most after ≡ loads-left most (with_load loads (lane_of e) (Some next)) = ap (loads-left most) left.3 in
      let n = taken-by p s (moves lane) t goes in
      let room : l.moves < most = left.2 in
      same-less (enough_nodes p.game) (nodes_taken s) (nodes_taken t) (loads-left most after) (loads-left most loads) most (omega (arith, n)) (omega (arith, w, x, y, a, room))
  less-left e (ends lane) t of goes left enough =
      let same_lane = lane-same p s e (ends lane) of in
      let h = goes.1 in
      let low : 1 ≤ lane_of e = subst (λ k. 1 ≤ k) same_lane h.from_one in
      let high : lane_of e ≤ length loads = subst (λ k. lane_of e ≤ k) (sym lengths) (subst (λ k. k ≤ length s.lanes) same_lane h.in_range) in
      let k = held-load (lane_of e) goes.0 false (subst (λ n. Holds s n goes.0 false) same_lane h) in
      let l : Load = left.0 in
      let going : l.ended ≡ false = ap (λ (x : Load). x.ended) (one-load l k.0 (sym left.1 ∙ k.1)) ∙ k.2 in
      let next : Load = record { node = l.node; moves = l.moves; ended = true } in
      let w = left-with most loads (lane_of e) (Some next) (Some l) low high left.1 in
      let x = left-going most l going in
      let a : loads-left most after ≡ loads-left most (with_load loads (lane_of e) (Some next)) = ap (loads-left most) left.2 in
      let n = taken-by p s (ends lane) t goes in
      same-less (enough_nodes p.game) (nodes_taken s) (nodes_taken t) (loads-left most after) (loads-left most loads) most (omega (arith, n)) (omega (arith, w, x, a))
  less-left e (works lane fact point) t of goes left enough =
      let same_lane = lane-same p s e (works lane fact point) of in
      let h = goes.1 in
      let low : 1 ≤ lane_of e = subst (λ k. 1 ≤ k) same_lane h.from_one in
      let high : lane_of e ≤ length loads = subst (λ k. lane_of e ≤ k) (sym lengths) (subst (λ k. k ≤ length s.lanes) same_lane h.in_range) in
      let k = held-load (lane_of e) goes.0 true (subst (λ n. Holds s n goes.0 true) same_lane h) in
      let w = left-with most loads (lane_of e) None (Some k.0) low high k.1 in
      let x = left-ended most k.0 k.2 in
      let a : loads-left most after ≡ loads-left most (with_load loads (lane_of e) None) = ap (loads-left most) left in
      let n = taken-by p s (works lane fact point) t goes in
      same-less (enough_nodes p.game) (nodes_taken s) (nodes_taken t) (loads-left most after) (loads-left most loads) most (omega (arith, n)) (omega (arith, w, x, a))
  less-left e (sticks lane cause) t of goes left enough =
      let same_lane = lane-same p s e (sticks lane cause) of in
      let h = goes.1 in
      let low : 1 ≤ lane_of e = subst (λ k. 1 ≤ k) same_lane h.from_one in
      let high : lane_of e ≤ length loads = subst (λ k. lane_of e ≤ k) (sym lengths) (subst (λ k. k ≤ length s.lanes) same_lane h.in_range) in
      let k = held-load (lane_of e) goes.0 true (subst (λ n. Holds s n goes.0 true) same_lane h) in
      let w = left-with most loads (lane_of e) None (Some k.0) low high k.1 in
      let x = left-ended most k.0 k.2 in
      let a : loads-left most after ≡ loads-left most (with_load loads (lane_of e) None) = ap (loads-left most) left in
      let n = taken-by p s (sticks lane cause) t goes in
      same-less (enough_nodes p.game) (nodes_taken s) (nodes_taken t) (loads-left most after) (loads-left most loads) most (omega (arith, n)) (omega (arith, w, x, a))
