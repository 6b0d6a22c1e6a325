-- What the machine keeps is right at the start of a search.
use Rattle.std.proofs.Common.{◌≡◌, ◌≢◌, ◌⊎◌, ◌↔◌, ℕ, zero, suc, ◌+◌, ◌-◌, ◌*◌, ◌^◌, ◌≤◌, ◌<◌, Bool, true, false, true≢false, cond, nat_eq, List, [], ◌∷◌, ◌++◌, map, length, replicate, flat_map, filter_map, sym, ◌∙◌, ap, subst, refl, arith, Option, Some, None, inl, inr, ⊎_elim, Contains, All, append_assoc, append-nil, ℤ, pos, ◌+ℤ◌, ◌-ℤ◌, ◌*ℤ◌, ◌≤ℤ◌, ◌<ℤ◌}
use Rattle.std.proofs.Math.Nat.{eq-one_of_dvd-one}
use Rattle.std.proofs.lemmas.Int.{ints}
use Rattle.std.specs.Int.{◌∣◌}
use Rattle.std.specs.Prelude.{unsigned_abs}
use Rattle.std.specs.Ordering.{nat_cmp}
use Rattle.std.proofs.lemmas.Bool.{cases_Bool, eqb-true}
use Rattle.std.specs.Cmp.Lexicographic.{slice_cmp}
use Rattle.std.proofs.lemmas.List.Elements.{All-nil, All-cons, All-head, Contains-append_cases}
use Rattle.sg_model.proofs.Ints.{v, n, times, same_by, mul-le}
use Rattle.sg_model.specs.declared.ticket.Ticket.{Ticket}
use Rattle.sg_model.specs.Sums.{greatest, numbers, numbers_from}
use Rattle.sg_model.specs.Games.{Game, action_count, prior_total}
use Rattle.sg_model.specs.Limits.{IsGame}
use Rattle.sg_model.specs.Plays.{IsLegal}
use Rattle.sg_model.specs.Commitments.{AreLegal, AreLowest, IsCommitment, weight_total}
use Rattle.sg_model.specs.Payoffs.{IsPeopled, greatest_of, shift_of}
use Rattle.sg_model.proofs.Promises.{peopled}
use Rattle.sg_game.specs.Counting.{least_code}
use Rattle.sg_frac.specs.Fractions.{Fraction}
use Rattle.sg_commit.specs.Committed.{Committed, IsCommitted}
use Rattle.sg_commit.specs.Rising.{AreShares}
use Rattle.sg_tree.specs.declared.fact.Fact.{Fact}
use Rattle.sg_tree.specs.declared.fix.Fix.{Fix}
use Rattle.sg_tree.specs.declared.report.Cap.{Cap}
use Rattle.sg_tree.specs.declared.worked.Worked.{Worked}
use Rattle.sg_bounds.specs.Regions.{alone, prefix}
use Rattle.sg_bounds.specs.Leaves.{root_bound}
use Rattle.sg_bounds.specs.Sizes.{value_sums}
use Rattle.sg_bounds.proofs.Small.{small_totals_fit}
use Rattle.sg_num.specs.Exact.{Fits}
use Rattle.sg_search.specs.declared.held.Held.{Held}
use Rattle.sg_search.specs.declared.held.Stuck.{Stuck}
use Rattle.sg_search.specs.Searches.{Task, Search, first_search, holds_node, stuck_count, taken_count, worked_count, IsPartOf, IsCapNode}
use Rattle.sg_search.specs.Bounding.{cap_at, cap_facts, caps_of, fact_of, least_cap, own_bound, value_fraction}
use Rattle.sg_search.specs.Changes.{MaySplit}
use Rattle.sg_search.specs.Events.{AreChoices, comes_first}
use Rattle.sg_search.specs.Results.{IsFirst, IsResult, most_caps}
use Rattle.sg_search.proofs.Chosen.{InOrder}
use Rattle.sg_search.proofs.Enough.{cap_nodes_of}
use Rattle.sg_search.proofs.Listing.{choices-none, keyed-in, none-in, order-append, order-cons, order-nil}
use Rattle.sg_search.proofs.Placed.{free-none}
use Rattle.sg_search.proofs.Told.{cap-in, cap_nodes, in-caps, in-parts, part-in, parts}
use Rattle.sg_lanes.specs.declared.ripe.Ripe.{Ripe}
use Rattle.sg_lanes.specs.Bounds.{Stands, StandsFor}
use Rattle.sg_lanes.specs.Frontiers.{Frontier, IsFrontier, IsRipe}
use Rattle.sg_lanes.specs.Machines.{first_tickets, task_on}
use Rattle.sg_lanes.proofs.Branched.{later-end, later-step, number-in, parts-order}
use Rattle.sg_lanes.proofs.Sifted.{cmp-last, cmp-less}

-- ---- the first commitment

module _ (g : Game) (x : Ticket) (legal : IsLegal g x.play.code) (one : x.weight ≡ pos 1) where
  abbrev only : List Ticket
  only = x ∷ []

  all-positive : All (λ (y : Ticket). pos 1 ≤ℤ y.weight) only
  all-positive = All-cons (λ (y : Ticket). pos 1 ≤ℤ y.weight) x [] (omega (arith, ints, one)) (All-nil (λ (y : Ticket). pos 1 ≤ℤ y.weight))

  sum-is : pos 1 ≡ weight_total only
  sum-is = omega (arith, ints, one)

  lowest : AreLowest only
  lowest d each =
      let here = All-head (λ (y : Ticket). d ∣ unsigned_abs y.weight) x [] each in
      eq-one_of_dvd-one (subst (λ (z : ℤ). d ∣ unsigned_abs z) one here)

  pub one-shares : AreShares only (pos 1)
  one-shares = record { sum = sum-is; lowest = lowest }

  commitment : IsCommitment g only
  commitment = record {
    some = λ e. cc;
    legal = All-cons (λ (y : Ticket). IsLegal g y.play.code) x [] legal (All-nil (λ (y : Ticket). IsLegal g y.play.code));
    positive = all-positive;
    distinct = λ i j d low high. absurd (omega (arith, low, high));
  }

  pub one-first : IsGame g → prior_total g ≤ℤ pos (2 ^ 23) → IsFirst g only
  one-first game few =
      let small : ((weight_total only *ℤ prior_total g) *ℤ pos (2 ^ 30)) <ℤ pos (2 ^ 127) =
      subst (λ (z : ℤ). ((z *ℤ prior_total g) *ℤ pos (2 ^ 30)) <ℤ pos (2 ^ 127)) sum-is (small-by (prior_total g) few) in
      record { commitment = commitment; lowest = lowest; narrow = (small_totals_fit g game only commitment small).1 }
    where
      small-by : (p : ℤ) → p ≤ℤ pos (2 ^ 23) → ((pos 1 *ℤ p) *ℤ pos (2 ^ 30)) <ℤ pos (2 ^ 127)
      small-by p le =
          let a = mul-le p (pos (2 ^ 23)) (pos (2 ^ 30)) le (omega (arith, ints)) in
          let b : pos (2 ^ 23) *ℤ pos (2 ^ 30) ≡ pos (2 ^ 53) = refl in
          let c : (pos 1 *ℤ p) *ℤ pos (2 ^ 30) ≡ p *ℤ pos (2 ^ 30) = same_by (times (times (n 1) (v p)) (n (2 ^ 30))) (times (v p) (n (2 ^ 30))) (omega arith) in
          omega (arith, ints, a, b, c)

-- ---- the cap nodes in order

caps-order-of : (l b k : ℕ) → InOrder (map (alone l) (numbers_from b k))
caps-order-of l b zero = order-nil
caps-order-of l b (suc k) = order-cons (alone l b) (map (alone l) (numbers_from (b + 1) k))
    (λ y at.
    let q = keyed-in (alone l) (numbers_from (b + 1) k) y at in
    let r = number-in (b + 1) k q.0 q.1 in
    let low = r.0 in
    subst (λ (z : Fix). comes_first (alone l b) z ≡ true) q.2 (cmp-last (l ∷ []) b q.0 (omega (arith, low))))
    (caps-order-of l (b + 1) k)

of-type : (l k : ℕ) (x : Fix) → Contains (map (alone l) (numbers_from 1 k)) x → x.first ≡ l
of-type l k x at = let q = keyed-in (alone l) (numbers_from 1 k) x at in ap (λ (z : Fix). z.first) (sym q.2)

from-type : (g : Game) (b k : ℕ) (x : Fix) → Contains (flat_map (cap_nodes_of g) (numbers_from b k)) x → b ≤ x.first
from-type g b zero x at = absurd (none-in at)
from-type g b (suc k) x at = ⊎_elim
    (λ here. let e = of-type b (action_count g b) x here in omega (arith, e))
    (λ later. let l = from-type g (b + 1) k x later in omega (arith, l))
    (Contains-append_cases (cap_nodes_of g b) (flat_map (cap_nodes_of g) (numbers_from (b + 1) k)) x at)

caps-order : (g : Game) (b k : ℕ) → InOrder (flat_map (cap_nodes_of g) (numbers_from b k))
caps-order g b zero = order-nil
caps-order g b (suc k) = order-append (cap_nodes_of g b) (flat_map (cap_nodes_of g) (numbers_from (b + 1) k)) (caps-order-of b 1 (action_count g b)) (caps-order g (b + 1) k)
    (λ x y at later.
    let e = of-type b (action_count g b) x at in
    let l = from-type g (b + 1) k y later in
    cmp-less x.first y.first (omega (arith, e, l)) (slice_cmp nat_cmp x.acts y.acts))

-- the nodes of one type after those of another
flat-next : {X : Type 0} (f : ℕ → List X) (b k : ℕ) → 1 ≤ k → flat_map f (numbers_from b k) ≡ f b ++ flat_map f (numbers_from (b + 1) (k - 1))
flat-next f b zero some = absurd (omega (arith, some))
flat-next f b (suc k) some = ap (λ (n : ℕ). f b ++ flat_map f (numbers_from (b + 1) n)) (let e : k ≡ suc k - 1 = omega arith in e)

pub flat-step : {X : Type 0} (f : ℕ → List X) (xs all : List X) (a count : ℕ) → a < count → xs ++ flat_map f (numbers_from (a + 1) (count - a)) ≡ all
    → (xs ++ f (a + 1)) ++ flat_map f (numbers_from (a + 1 + 1) (count - (a + 1))) ≡ all
flat-step {X} f xs all a count lt e =
    append_assoc xs (f (a + 1)) (flat_map f (numbers_from (a + 1 + 1) (count - (a + 1))))
    ∙ ap (λ (n : ℕ). xs ++ (f (a + 1) ++ flat_map f (numbers_from (a + 1 + 1) n))) (let q : count - (a + 1) ≡ count - a - 1 = omega arith in q)
    ∙ ap (λ (ys : List X). xs ++ ys) (sym (flat-next f (a + 1) (count - a) (omega (arith, lt))))
    ∙ e

pub flat-end : {X : Type 0} (f : ℕ → List X) (xs all : List X) (a count : ℕ) → count ≤ a → xs ++ flat_map f (numbers_from (a + 1) (count - a)) ≡ all → xs ≡ all
flat-end f xs all a count le e = sym (append-nil xs) ∙ ap (λ (n : ℕ). xs ++ flat_map f (numbers_from (a + 1) n)) (let q : 0 ≡ count - a = omega (arith, le) in q) ∙ e

-- ---- the caps

no-facts : (l b k : ℕ) → filter_map (λ a. fact_of [] (alone l a)) (numbers_from b k) ≡ []
no-facts l b zero = refl
no-facts l b (suc k) = no-facts l (b + 1) k

plain-cap : (g : Game) (s : Search) (l : ℕ) → s.worked ≡ [] → 1 ≤ action_count g l → cap_at g s l ≡ record { l = l; v = greatest_of g l; proof = [] }
plain-cap g s l none some =
    let facts : cap_facts g s l ≡ [] = ap (λ (ws : List Worked). filter_map (λ a. fact_of ws (alone l a)) (numbers (action_count g l))) none ∙ no-facts l 1 (action_count g l) in
    ap (λ (fs : List Fact). cond {A = Cap} (nat_eq (length fs) (action_count g l)) (record { l = l; v = greatest (filter_map (least_cap g l) fs); proof = fs }) (record { l = l; v = greatest_of g l; proof = [] })) facts
    ∙ ap (λ (b : Bool). cond {A = Cap} b (record { l = l; v = greatest (filter_map (least_cap g l) []); proof = [] }) (record { l = l; v = greatest_of g l; proof = [] })) (differ (action_count g l) some)
  where
    differ : (k : ℕ) → 1 ≤ k → nat_eq 0 k ≡ false
    differ k low = ⊎_elim (λ yes. let e = eqb-true 0 k yes in absurd (omega (arith, e, low))) (λ other. other) (cases_Bool (nat_eq 0 k))

map-each : {X : Type 0} (f h : ℕ → X) (b k : ℕ) → ((l : ℕ) → b ≤ l → l < b + k → f l ≡ h l) → map f (numbers_from b k) ≡ map h (numbers_from b k)
map-each f h b zero each = refl
map-each {X} f h b (suc k) each =
    ap (λ (x : X). x ∷ map f (numbers_from (b + 1) k)) (each b (omega arith) (omega arith))
    ∙ ap (λ (xs : List X). h b ∷ xs) (map-each f h (b + 1) k (λ l low high. each l (omega (arith, low)) (omega (arith, high))))

first-caps : (g : Game) → IsPeopled g → (s : Search) → s.worked ≡ [] → most_caps g ≡ caps_of g s
first-caps g people s none = sym (map-each (cap_at g s) (λ l. record { l = l; v = greatest_of g l; proof = [] }) 2 (length g.types - 1)
    (λ l low high. plain-cap g s l none (people.actions l (omega (arith, low)) (omega (arith, high, low)))))

-- ---- the start

module _ (g : Game) (game : IsGame g) (lanes nodes : ℕ) (few : nodes ≤ 1000000) (first : IsFirst g (first_tickets g)) where
  abbrev p : Task
  p = task_on g lanes nodes

  abbrev s : Search
  s = first_search p

  people : IsPeopled g
  people = peopled g game

  none-taken : (x : Fix) → taken_count s x ≡ 0
  none-taken x = let e = free-none (holds_node x) refl lanes in omega (arith, e)

  parts-are : (A : Fix → Type 0) → ((x : Fix) → A x) → AreChoices (λ x. IsPartOf g [] x × A x) (parts g [])
  parts-are A all = record { in_order = parts-order [] 1 (action_count g 1); each = λ y. (λ at. (part-in g [] y at, all y), λ k. in-parts g [] y k.0) }

  caps-are : (A : Fix → Type 0) → ((x : Fix) → A x) → AreChoices (λ x. IsCapNode g x × A x) (cap_nodes g)
  caps-are A all = record { in_order = caps-order g 2 (length g.types - 1); each = λ y. (λ at. (cap-in g y at, all y), λ k. in-caps g y k.0) }

  pub first-kept : (root value : Fraction) (best : Committed) → Stands root (root_bound g) → IsCommitted best → best.tickets ≡ first_tickets g → Stands value (value_fraction g (first_tickets g))
      → IsFrontier (task_on g lanes nodes) (first_search (task_on g lanes nodes)) (record { root = root; shift = shift_of g; best = best; value = value; caps = most_caps g; parts = parts g []; group = Some root; lone = cap_nodes g; tops = parts g []; undone = cap_nodes g; ripe = [] })
  first-kept root value best is_root committed is_best is_value = record {
    changes = [];
    runs = refl;
    peopled = people;
    few = few;
    first = first;
    root = is_root;
    shift = refl;
    results = All-nil (IsResult g);
    committed = committed;
    best = is_best;
    value = is_value;
    caps = first-caps g people s refl;
    front = [];
    last = [];
    splits = refl;
    group = is_root;
    parts = parts-are (λ x. taken_count s x ≡ 0) none-taken;
    lone = caps-are (λ x. taken_count s x ≡ 0) none-taken;
    tops = parts-are (λ x. worked_count s x ≡ 0) (λ x. refl);
    undone = caps-are (λ x. worked_count s x + stuck_count s x ≡ 0) (λ x. refl);
    ripe = choices-none (IsRipe p s) (λ x r. let w = r.2.worked in omega (arith, w));
    bounds = All-nil (λ (r : Ripe). StandsFor (Some r.bound) (own_bound g s r.node.acts));
  }

fields-same : (root value : Fraction) (shift : ℤ) (best : Committed) (group : Option Fraction) (shift0 : ℤ) (caps caps0 : List Cap) (parts parts0 lone lone0 tops tops0 undone undone0 : List Fix) (ripe ripe0 : List Ripe)
    → shift ≡ shift0 → caps ≡ caps0 → parts ≡ parts0 → lone ≡ lone0 → tops ≡ tops0 → undone ≡ undone0 → ripe ≡ ripe0
    → ◌≡◌ {A = Frontier} (record { root = root; shift = shift; best = best; value = value; caps = caps; parts = parts; group = group; lone = lone; tops = tops; undone = undone; ripe = ripe })
    (record { root = root; shift = shift0; best = best; value = value; caps = caps0; parts = parts0; group = group; lone = lone0; tops = tops0; undone = undone0; ripe = ripe0 })
fields-same root value shift best group shift0 caps caps0 parts parts0 lone lone0 tops tops0 undone undone0 ripe ripe0 a b c d e f g = cc

lists-same : (lanes lanes0 : List (Option Held)) (splits splits0 : List (List ℕ)) (worked worked0 : List Worked) (stuck stuck0 : List Stuck) → lanes ≡ lanes0 → splits ≡ splits0 → worked ≡ worked0 → stuck ≡ stuck0
    → ◌≡◌ {A = Search} (record { lanes = lanes; splits = splits; worked = worked; stuck = stuck }) (record { lanes = lanes0; splits = splits0; worked = worked0; stuck = stuck0 })
lists-same lanes lanes0 splits splits0 worked worked0 stuck stuck0 a b c d = cc

-- the same for the lists as they were made
pub start-kept : (g : Game) (count nodes : ℕ) → IsGame g → nodes ≤ 1000000 → (root value : Fraction) (shift : ℤ) (best : Committed) (lanes : List (Option Held)) (splits : List (List ℕ)) (worked : List Worked) (stuck : List Stuck) (caps : List Cap) (parts lone tops undone : List Fix) (ripe : List Ripe)
    → best.tickets ≡ first_tickets g → IsCommitted best → IsFirst g best.tickets → Stands root (root_bound g) → Stands value (value_fraction g best.tickets)
    → lanes ≡ replicate count None → splits ≡ [] ∷ [] → worked ≡ [] → stuck ≡ [] → shift ≡ shift_of g → caps ≡ most_caps g → parts ≡ Rattle.sg_search.proofs.Told.parts g [] → lone ≡ cap_nodes g → tops ≡ Rattle.sg_search.proofs.Told.parts g [] → undone ≡ cap_nodes g → ripe ≡ []
    → IsFrontier (task_on g count nodes) (record { lanes = lanes; splits = splits; worked = worked; stuck = stuck })
    (record { root = root; shift = shift; best = best; value = value; caps = caps; parts = parts; group = Some root; lone = lone; tops = tops; undone = undone; ripe = ripe })
start-kept g count nodes game few root value shift best lanes splits worked stuck caps parts lone tops undone ripe is_best committed first is_root is_value a b c d e h i j k l m =
    let p : Task = task_on g count nodes in
    let kept = first-kept g game count nodes few (subst (IsFirst g) is_best first) root value best is_root committed is_best (subst (λ (ts : List Ticket). Stands value (value_fraction g ts)) is_best is_value) in
    subst (λ (f : Frontier). IsFrontier p (record { lanes = lanes; splits = splits; worked = worked; stuck = stuck }) f)
    (sym (fields-same root value shift best (Some root) (shift_of g) caps (most_caps g) parts (Rattle.sg_search.proofs.Told.parts g []) lone (cap_nodes g) tops (Rattle.sg_search.proofs.Told.parts g []) undone (cap_nodes g) ripe [] e h i j k l m))
    (subst (λ (s : Search). IsFrontier p s (record { root = root; shift = shift_of g; best = best; value = value; caps = most_caps g; parts = Rattle.sg_search.proofs.Told.parts g []; group = Some root; lone = cap_nodes g; tops = Rattle.sg_search.proofs.Told.parts g []; undone = cap_nodes g; ripe = [] }))
    (sym (lists-same lanes (replicate count None) splits ([] ∷ []) worked [] stuck [] a b c d)) kept)
