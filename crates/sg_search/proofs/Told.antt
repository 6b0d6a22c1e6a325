-- What may be chosen, and what a lane is told.
use Rattle.std.proofs.Common.{◌≡◌, ◌≢◌, ◌⊎◌, ◌↔◌, ℕ, zero, suc, ◌+◌, ◌-◌, ◌≤◌, ◌<◌, nat_eq, nat_lt, Bool, true, false, true≢false, cond, ◌&&◌, List, [], ◌∷◌, ◌++◌, map, length, take, drop, flat_map, count_by, sym, ◌∙◌, ap, subst, refl, arith, Option, Some, None, inl, inr, ⊎_elim, Contains}
use Rattle.std.specs.Prelude.{slice_get, filter, not}
use Rattle.std.proofs.lemmas.Bool.{cases_Bool, and_parts, and_from, eqb-true, eq-eqb}
use Rattle.std.proofs.lemmas.List.Sums.{sum_by-cons}
use Rattle.std.proofs.lemmas.List.Elements.{All-contains, Contains-append_cases, Contains-append_left, Contains-append_right}
use Rattle.std.proofs.lemmas.Bool.Decides.{Decides-ltb}
use Rattle.sg_model.specs.Sums.{numbers, numbers_from}
use Rattle.sg_model.specs.Games.{Game, action_count}
use Rattle.sg_model.proofs.Numbers.{All-numbers_from}
use Rattle.sg_model.proofs.Payoffs.{Contains-flat_map, Contains-map, Contains-numbers, Contains-numbers_from}
use Rattle.sg_bounds.specs.Facts.{no_fact}
use Rattle.sg_bounds.specs.Regions.{alone, prefix}
use Rattle.sg_tree.specs.declared.fix.Fix.{Fix}
use Rattle.sg_tree.specs.declared.worked.Worked.{Worked}
use Rattle.sg_search.specs.declared.held.Held.{Held}
use Rattle.sg_search.specs.declared.event.Event.{Event}
use Rattle.sg_search.specs.declared.event.Event.TheVariants.{Begin, Turn, Finish}
use Rattle.sg_search.specs.declared.event.Ready.{Ready}
use Rattle.sg_search.specs.Searches.{Task, Search, lane_at, same, worked_count, stuck_count, taken_count, busy_count, IsPartOf, IsCapNode}
use Rattle.sg_search.specs.Bounding.{inherited, is_open, is_over, is_split, own_bound}
use Rattle.sg_search.specs.Changes.{Change, takes, branches, moves, ends, works, sticks, CapsAreDone, Goes, Holds, IsFree, MayBegin, MaySplit, MayTake, begun, first_part, with_lane}
use Rattle.sg_search.specs.Events.{AreChoices, Allows, IsChoice, IsEnabled, IsOf, MayBranch, MayChoose, Tells, lane_of}
use Rattle.sg_search.specs.ReadyLaws.{ChoicesAreThere, EnabledMeans, EndIsStill, LanesAreTold, ToldOnce}
use Rattle.sg_search.proofs.Placed.{one_if, part-no_cap, part-one, same-is}
use Rattle.sg_search.proofs.Enough.{cap_nodes_of, counted, fixes, member}
use Rattle.sg_search.proofs.Chosen.{choice-at, choose-branch, choose-take}
use Rattle.sg_search.proofs.Listing.{choices-none, choices-same, cut, either-in, here-in, kept-from, kept-of, keyed-in, later-in, none-in}
use Rattle.sg_search.proofs.Sorted.{sorted}

-- ---- members of lists

number-in : (a m t : ℕ) → Contains (numbers_from a m) t → (a ≤ t) × (t < a + m)
number-in a m t at = All-contains (λ k. (a ≤ k) × (k < a + m)) (numbers_from a m) t (All-numbers_from (λ k. (a ≤ k) × (k < a + m)) a m (λ k low high. (low, high))) at

flat-in : {X Y : Type 0} (f : X → List Y) (xs : List X) (y : Y) → Contains (flat_map f xs) y → (x : X) × Contains xs x × Contains (f x) y
flat-in f [] y at = absurd (none-in at)
flat-in f (x ∷ xs) y at = ⊎_elim
    (λ l. (x, here-in x xs, l))
    (λ r. let q = flat-in f xs y r in (q.0, later-in x xs q.0 q.1, q.2))
    (Contains-append_cases (f x) (flat_map f xs) y at)

-- the item at a place is a member, and a member has a place
pub at-in : {X : Type 0} (xs : List X) (n : ℕ) (x : X) → slice_get xs n ≡ Some x → Contains xs x
at-in {X} xs n x e = subst (λ (zs : List X). Contains zs x) (sym (cut xs n x e)) (Contains-append_right (take n xs) (x ∷ drop (suc n) xs) x (here-in x (drop (suc n) xs)))

pub place-of : {X : Type 0} (xs : List X) (x : X) → Contains xs x → (n : ℕ) × (slice_get xs n ≡ Some x)
place-of [] x at = absurd (none-in at)
place-of {X} (z ∷ xs) x at = ⊎_elim
    (λ e. (0, ap (λ (w : X). Some w) e))
    (λ l. let r = place-of xs x l in (suc r.0, r.1))
    (either-in z xs x at)

-- ---- parts and cap nodes as lists

abbrev pub parts : Game → List ℕ → List Fix
parts g acts = map (λ a. prefix (acts ++ (a ∷ []))) (numbers (action_count g (length acts + 1)))

pub part-in : (g : Game) (acts : List ℕ) (node : Fix) → Contains (parts g acts) node → IsPartOf g acts node
part-in g acts node at =
    let q = keyed-in (λ a. prefix (acts ++ (a ∷ []))) (numbers (action_count g (length acts + 1))) node at in
    let r = number-in 1 (action_count g (length acts + 1)) q.0 q.1 in
    let low = r.0 in
    let high = r.1 in
    record { act = q.0; from_one = low; in_range = omega (arith, high); node_is = sym q.2 }

pub in-parts : (g : Game) (acts : List ℕ) (node : Fix) → IsPartOf g acts node → Contains (parts g acts) node
in-parts g acts node of =
    subst (Contains (parts g acts)) (sym of.node_is)
    (Contains-map (λ a. prefix (acts ++ (a ∷ []))) (numbers (action_count g (length acts + 1))) of.act (Contains-numbers (action_count g (length acts + 1)) of.act of.from_one of.in_range))

abbrev pub cap_nodes : Game → List Fix
cap_nodes g = flat_map (cap_nodes_of g) (numbers_from 2 (length g.types - 1))

pub cap-in : (g : Game) (node : Fix) → Contains (cap_nodes g) node → IsCapNode g node
cap-in g node at =
    let q = flat-in (cap_nodes_of g) (numbers_from 2 (length g.types - 1)) node at in
    let r = number-in 2 (length g.types - 1) q.0 q.1 in
    let k = keyed-in (alone q.0) (numbers (action_count g q.0)) node q.2 in
    let t = number-in 1 (action_count g q.0) k.0 k.1 in
    let a = r.0 in
    let b = r.1 in
    let c = t.0 in
    let d = t.1 in
    record { l = q.0; act = k.0; from_two = a; type_in_range = omega (arith, a, b); from_one = c; in_range = omega (arith, d); node_is = sym k.2 }

pub in-caps : (g : Game) (node : Fix) → IsCapNode g node → Contains (cap_nodes g) node
in-caps g node lone =
    let high = lone.type_in_range in
    let low = lone.from_two in
    subst (Contains (cap_nodes g)) (sym lone.node_is)
    (Contains-flat_map (cap_nodes_of g) (numbers_from 2 (length g.types - 1)) lone.l (alone lone.l lone.act)
    (Contains-numbers_from 2 (length g.types - 1) lone.l low (omega (arith, high, low)))
    (Contains-map (alone lone.l) (numbers (action_count g lone.l)) lone.act (Contains-numbers (action_count g lone.l) lone.act lone.from_one lone.in_range)))

-- ---- what may be taken, as a list

abbrev over_parts : Task → Search → List ℕ → List Fix
over_parts p s acts = cond (is_over p s (inherited p.game s acts)) (parts p.game acts) []

over-in : (p : Task) (s : Search) (acts : List ℕ) (node : Fix) → Contains (over_parts p s acts) node → (is_over p s (inherited p.game s acts) ≡ true) × IsPartOf p.game acts node
over-in p s acts node at = by (is_over p s (inherited p.game s acts)) refl at
  where
    by : (b : Bool) → is_over p s (inherited p.game s acts) ≡ b → Contains (cond b (parts p.game acts) []) node → (is_over p s (inherited p.game s acts) ≡ true) × IsPartOf p.game acts node
    by true e inside = (e, part-in p.game acts node inside)
    by false e inside = absurd (none-in inside)

in-over : (p : Task) (s : Search) (acts : List ℕ) (node : Fix) → is_over p s (inherited p.game s acts) ≡ true → IsPartOf p.game acts node → Contains (over_parts p s acts) node
in-over p s acts node e of = subst (λ (b : Bool). Contains (cond b (parts p.game acts) []) node) (sym e) (in-parts p.game acts node of)

abbrev candidates : Task → Search → List Fix
candidates p s = flat_map (over_parts p s) s.splits ++ cap_nodes p.game

abbrev is_fresh : Search → Fix → Bool
is_fresh s x = nat_eq (taken_count s x) 0

abbrev takeable : Task → Search → List Fix
takeable p s = filter (is_fresh s) (candidates p s)

takeable-in : (p : Task) (s : Search) (node : Fix) → Contains (takeable p s) node → MayTake p s node
takeable-in p s node at =
    let k = kept-from (is_fresh s) (candidates p s) node at in
    let fresh : taken_count s node ≡ 0 = eqb-true (taken_count s node) 0 k.1 in
    ⊎_elim
    (λ l.
    let q = flat-in (over_parts p s) s.splits node l in
    let o = over-in p s q.0 node q.2 in
    record { waits = (inl (q.0, q.1, o.1), fresh); worth = inl (q.0, o.1, o.0) })
    (λ r. let c = cap-in p.game node r in record { waits = (inr c, fresh); worth = inr c })
    (Contains-append_cases (flat_map (over_parts p s) s.splits) (cap_nodes p.game) node k.0)

in-takeable : (p : Task) (s : Search) (node : Fix) → MayTake p s node → Contains (takeable p s) node
in-takeable p s node may = kept-of (is_fresh s) (candidates p s) node inside (eq-eqb (taken_count s node) 0 may.waits.1)
  where
    inside : Contains (candidates p s) node
    inside = ⊎_elim
        (λ below. ⊎_elim
        (λ worth.
        let one = part-one p.game worth.0 below.0 node worth.1 below.2 in
        Contains-append_left (flat_map (over_parts p s) s.splits) (cap_nodes p.game) node
        (Contains-flat_map (over_parts p s) s.splits below.0 node below.1
        (in-over p s below.0 node (subst (λ (x : List ℕ). is_over p s (inherited p.game s x) ≡ true) one worth.2) below.2)))
        (λ lone. absurd (part-no_cap p.game below.0 node below.2 lone))
        may.worth)
        (λ lone. Contains-append_right (flat_map (over_parts p s) s.splits) (cap_nodes p.game) node (in-caps p.game node lone))
        may.waits.0

-- ---- what may be split, as a list

is_nil : List ℕ → Bool
is_nil [] = true
is_nil (x ∷ xs) = false

not-true : (b : Bool) → not b ≡ true → b ≡ false
not-true true e = absurd (true≢false (sym e))
not-true false e = refl

true-not : (b : Bool) → b ≡ false → not b ≡ true
true-not true e = absurd (true≢false e)
true-not false e = refl

nil-is : (xs : List ℕ) → is_nil xs ≡ false → xs ≢ []
unfolding is_nil
nil-is [] e = absurd (true≢false e)
nil-is (x ∷ xs) e = λ h. cc

is-nil : (xs : List ℕ) → xs ≢ [] → is_nil xs ≡ false
unfolding is_nil
is-nil [] h = absurd (h refl)
is-nil (x ∷ xs) h = refl

-- whether a worked node may be split
abbrev splittable : Task → Search → Worked → Bool
splittable p s w =
    nat_eq w.fix.first 1 && (not (is_nil w.fix.acts) && (not (is_split s.splits w.fix.acts) && (nat_lt (length w.fix.acts) (length p.game.types) && is_over p s (own_bound p.game s w.fix.acts))))

abbrev branchable : Task → Search → List Fix
branchable p s = map (λ (w : Worked). w.fix) (filter (splittable p s) s.worked)

fix-prefix : (x : Fix) → x.first ≡ 1 → x ≡ prefix x.acts
fix-prefix x e = ap (λ (f : ℕ). record { first = f; acts = x.acts }) e

keyed-worked : (ws : List Worked) (y : Fix) → Contains (map (λ (w : Worked). w.fix) ws) y → (w : Worked) × Contains ws w × (w.fix ≡ y)
keyed-worked ws y at = keyed-in (λ (w : Worked). w.fix) ws y at

branch-in : (p : Task) (s : Search) (node : Fix) → Contains (branchable p s) node → (acts : List ℕ) × (node ≡ prefix acts) × MaySplit p s acts
branch-in p s node at =
    let q = keyed-worked (filter (splittable p s) s.worked) node at in
    let w : Worked = q.0 in
    let k = kept-from (splittable p s) s.worked w q.1 in
    let acts : List ℕ = w.fix.acts in
    let a = and_parts (nat_eq w.fix.first 1) (not (is_nil acts) && (not (is_split s.splits acts) && (nat_lt (length acts) (length p.game.types) && is_over p s (own_bound p.game s acts)))) k.1 in
    let b = and_parts (not (is_nil acts)) (not (is_split s.splits acts) && (nat_lt (length acts) (length p.game.types) && is_over p s (own_bound p.game s acts))) a.1 in
    let c = and_parts (not (is_split s.splits acts)) (nat_lt (length acts) (length p.game.types) && is_over p s (own_bound p.game s acts)) b.1 in
    let d = and_parts (nat_lt (length acts) (length p.game.types)) (is_over p s (own_bound p.game s acts)) c.1 in
    let is : w.fix ≡ prefix acts = fix-prefix w.fix (eqb-true w.fix.first 1 a.0) in (
      acts,
      sym q.2 ∙ is,
      record {
        some = nil-is acts (not-true (is_nil acts) b.0);
        worked = subst (λ (x : Fix). 1 ≤ worked_count s x) is (counted w.fix s.worked (member w.fix (fixes s.worked) (Contains-map (λ (v : Worked). v.fix) s.worked w k.0)));
        unsplit = not-true (is_split s.splits acts) c.0;
        short = (Decides-ltb (length acts) (length p.game.types)).0 d.0;
        over = d.1;
      },
    )

found : (x : Fix) (ws : List Worked) → 1 ≤ count_by (λ (v : Worked). same x v.fix) ws → (w : Worked) × Contains ws w × (x ≡ w.fix)
found x [] h = absurd (omega (arith, h))
found x (w ∷ ws) h =
    let c = sum_by-cons (λ (v : Worked). cond (same x v.fix) 1 0) w ws in
    ⊎_elim
    (λ yes. (w, here-in w ws, same-is x w.fix yes))
    (λ other. let q : one_if (same x w.fix) ≡ 0 = ap one_if other in let r = found x ws (omega (arith, h, c, q)) in (r.0, later-in w ws r.0 r.1, r.2))
    (cases_Bool (same x w.fix))

in-branch : (p : Task) (s : Search) (acts : List ℕ) → MaySplit p s acts → Contains (branchable p s) (prefix acts)
in-branch p s acts may =
    let r = found (prefix acts) s.worked may.worked in
    let w : Worked = r.0 in
    let same_acts : acts ≡ w.fix.acts = ap (λ (x : Fix). x.acts) r.2 in
    let first : w.fix.first ≡ 1 = sym (ap (λ (x : Fix). x.first) r.2) in
    let pass : splittable p s w ≡ true =
    subst (λ (f : Fix). (nat_eq f.first 1 && (not (is_nil f.acts) && (not (is_split s.splits f.acts) && (nat_lt (length f.acts) (length p.game.types) && is_over p s (own_bound p.game s f.acts))))) ≡ true) r.2
    (and_from (nat_eq 1 1) (not (is_nil acts) && (not (is_split s.splits acts) && (nat_lt (length acts) (length p.game.types) && is_over p s (own_bound p.game s acts)))) refl
    (and_from (not (is_nil acts)) (not (is_split s.splits acts) && (nat_lt (length acts) (length p.game.types) && is_over p s (own_bound p.game s acts))) (true-not (is_nil acts) (is-nil acts may.some))
    (and_from (not (is_split s.splits acts)) (nat_lt (length acts) (length p.game.types) && is_over p s (own_bound p.game s acts)) (true-not (is_split s.splits acts) may.unsplit)
    (and_from (nat_lt (length acts) (length p.game.types)) (is_over p s (own_bound p.game s acts)) ((Decides-ltb (length acts) (length p.game.types)).1 may.short) may.over)))) in
    subst (Contains (branchable p s)) (sym r.2) (Contains-map (λ (v : Worked). v.fix) (filter (splittable p s) s.worked) w (kept-of (splittable p s) s.worked w r.1 pass))

-- ---- there is a list of the choices

all-or-one : (f : Fix → ℕ) (xs : List Fix) → ((x : Fix) → Contains xs x → 1 ≤ f x) ⊎ ((x : Fix) × Contains xs x × (f x ≡ 0))
all-or-one f [] = inl (λ x at. absurd (none-in at))
all-or-one f (z ∷ xs) = by (f z) refl (all-or-one f xs)
  where
    by : (n : ℕ) → f z ≡ n → (((x : Fix) → Contains xs x → 1 ≤ f x) ⊎ ((x : Fix) × Contains xs x × (f x ≡ 0))) → (((x : Fix) → Contains (z ∷ xs) x → 1 ≤ f x) ⊎ ((x : Fix) × Contains (z ∷ xs) x × (f x ≡ 0)))
    by zero e rest = inr (z, here-in z xs, e)
    by (suc n) e rest = ⊎_elim
        (λ all. inl (λ x at. ⊎_elim (λ q. subst (λ (w : Fix). 1 ≤ f w) q (omega (arith, e))) (λ l. all x l) (either-in z xs x at)))
        (λ one. inr (one.0, later-in z xs one.0 one.1, one.2))
        rest

there-take : (p : Task) (s : Search) (node : Fix) → MayTake p s node → (nodes : List Fix) × AreChoices (MayChoose p s) nodes
there-take p s node may =
    let r = sorted (takeable p s) in
    (r.0, choose-take p s r.0 (choices-same (λ y. Contains (takeable p s) y) (MayTake p s) r.0 (λ y. (λ at. takeable-in p s y at, λ m. in-takeable p s y m)) r.1) node may)

there-branch : (p : Task) (s : Search) → ((node : Fix) → ¬ (MayTake p s node)) → CapsAreDone p.game s → (nodes : List Fix) × AreChoices (MayChoose p s) nodes
there-branch p s none done =
    let r = sorted (branchable p s) in (
      r.0,
      choose-branch p s r.0 none (choices-same (λ y. Contains (branchable p s) y) (MayBranch p s) r.0
          (λ y. (
            λ at. let b = branch-in p s y at in record { acts = b.0; node_is = b.1; nothing = none; caps = done; split = b.2 },
            λ b. subst (Contains (branchable p s)) (sym b.node_is) (in-branch p s b.acts b.split),
          )) r.1),
    )

there-none : (p : Task) (s : Search) → ((node : Fix) → ¬ (MayTake p s node)) → (x : Fix) → IsCapNode p.game x → worked_count s x + stuck_count s x ≡ 0 → (nodes : List Fix) × AreChoices (MayChoose p s) nodes
there-none p s none x lone e = ([], choices-none (MayChoose p s) (λ y may. ⊎_elim (λ take. none y take) (λ b. let l = b.caps x lone in omega (arith, l, e)) may))

pub choices_are_there : ChoicesAreThere
choices_are_there p s = by (takeable p s) refl
  where
    none-from : takeable p s ≡ [] → (node : Fix) → ¬ (MayTake p s node)
    none-from e node may = none-in (subst (λ (xs : List Fix). Contains xs node) e (in-takeable p s node may))

    by : (xs : List Fix) → takeable p s ≡ xs → (nodes : List Fix) × AreChoices (MayChoose p s) nodes
    by (x ∷ xs) e = there-take p s x (takeable-in p s x (subst (λ (zs : List Fix). Contains zs x) (sym e) (here-in x xs)))
    by [] e = ⊎_elim
        (λ all. there-branch p s (none-from e) (λ node lone. all node (in-caps p.game node lone)))
        (λ one. there-none p s (none-from e) one.0 (cap-in p.game one.0 one.1) one.2)
        (all-or-one (λ x. worked_count s x + stuck_count s x) (cap_nodes p.game))

-- ---- what stands behind each event

choice-may : (p : Task) (s : Search) (n : ℕ) (node : Fix) → IsChoice p s n node → MayChoose p s node
choice-may p s n node c = (c.choices.each node).0 (at-in c.nodes n node c.place)

begin-from : (p : Task) (s : Search) (lane n : ℕ) (c : Change) (t : Search) → IsOf p s (Begin lane n) c → Goes p s c t → MayBegin p s lane × ((node : Fix) × IsChoice p s n node)
begin-from p s lane n (takes l node) t of goes = (subst (MayBegin p s) of.0 goes.0, (node, of.1))
begin-from p s lane n (branches l acts) t of goes = (subst (MayBegin p s) of.0 goes.0, (prefix acts, of.1))
begin-from p s lane n (moves l) t of goes = absurd of
begin-from p s lane n (ends l) t of goes = absurd of
begin-from p s lane n (works l fact point) t of goes = absurd of
begin-from p s lane n (sticks l cause) t of goes = absurd of

turn-from : (p : Task) (s : Search) (lane : ℕ) (c : Change) (t : Search) → IsOf p s (Turn lane) c → Goes p s c t → (node : Fix) × Holds s lane node false
turn-from p s lane (takes l node) t of goes = absurd of
turn-from p s lane (branches l acts) t of goes = absurd of
turn-from p s lane (moves l) t of goes = (goes.0, subst (λ (k : ℕ). Holds s k goes.0 false) of goes.1)
turn-from p s lane (ends l) t of goes = (goes.0, subst (λ (k : ℕ). Holds s k goes.0 false) of goes.1)
turn-from p s lane (works l fact point) t of goes = absurd of
turn-from p s lane (sticks l cause) t of goes = absurd of

finish-from : (p : Task) (s : Search) (lane : ℕ) (c : Change) (t : Search) → IsOf p s (Finish lane) c → Goes p s c t → (node : Fix) × Holds s lane node true
finish-from p s lane (takes l node) t of goes = absurd of
finish-from p s lane (branches l acts) t of goes = absurd of
finish-from p s lane (moves l) t of goes = absurd of
finish-from p s lane (ends l) t of goes = absurd of
finish-from p s lane (works l fact point) t of goes = (goes.0, subst (λ (k : ℕ). Holds s k goes.0 true) of goes.1)
finish-from p s lane (sticks l cause) t of goes = (goes.0, subst (λ (k : ℕ). Holds s k goes.0 true) of goes.1)

pub enabled-begin : (p : Task) (s : Search) (lane n : ℕ) (node : Fix) → MayBegin p s lane → IsChoice p s n node → IsEnabled p s (Begin lane n)
enabled-begin p s lane n node begin choice = ⊎_elim
    (λ take. (takes lane node, with_lane s lane (begun node), (refl, choice), (begin, take, refl)))
    (λ b. (
      branches lane b.acts,
      record (with_lane s lane (begun (first_part b.acts))) { splits = s.splits ++ (b.acts ∷ []) },
      (refl, subst (IsChoice p s n) b.node_is choice),
      (begin, b.nothing, b.caps, b.split, refl),
    ))
    (choice-may p s n node choice)

pub enabled_means : EnabledMeans
enabled_means p s lane = record {
  begin = λ n. (λ e. begin-from p s lane n e.0 e.1 e.2 e.3, λ h. enabled-begin p s lane n h.1.0 h.0 h.1.1);
  turn = (λ e. turn-from p s lane e.0 e.1 e.2 e.3, λ h. (moves lane, s, refl, (h.0, h.1, refl)));
  finish = (
    λ e. finish-from p s lane e.0 e.1 e.2 e.3,
    λ h. (works lane no_fact None, record (with_lane s lane None) { worked = s.worked ++ (record { fix = h.0; fact = no_fact; point = None } ∷ []) }, refl, (h.0, h.1, refl)),
  );
}

-- ---- what a lane is told

pub tells-by : (p : Task) (s : Search) (lane : ℕ) (ready : Ready) → ((n : ℕ) → IsEnabled p s (Begin lane n) ↔ Allows ready (Begin lane n)) → IsEnabled p s (Turn lane) ↔ Allows ready (Turn lane)
    → IsEnabled p s (Finish lane) ↔ Allows ready (Finish lane) → ((count : ℕ) → ready ≡ Ready.Begin count → 1 ≤ count) → Tells p s lane ready
tells-by p s lane ready begin turn finish some = record { each = each; some = some }
  where
    each : (e : Event) → lane_of e ≡ lane → IsEnabled p s e ↔ Allows ready e
    each (Begin l n) e = subst (λ (k : ℕ). IsEnabled p s (Begin k n) ↔ Allows ready (Begin k n)) (sym e) (begin n)
    each (Turn l) e = subst (λ (k : ℕ). IsEnabled p s (Turn k) ↔ Allows ready (Turn k)) (sym e) turn
    each (Finish l) e = subst (λ (k : ℕ). IsEnabled p s (Finish k) ↔ Allows ready (Finish k)) (sym e) finish

-- nothing, where a lane holds nothing and may not choose
pub told-nothing : (p : Task) (s : Search) (lane : ℕ) → ((node : Fix) (ended : Bool) → Holds s lane node ended → ⊥) → ((n : ℕ) (node : Fix) → MayBegin p s lane → IsChoice p s n node → ⊥) → Tells p s lane Ready.Nothing
told-nothing p s lane none no_choice =
    let c = enabled_means p s lane in
    tells-by p s lane Ready.Nothing
    (λ n. (λ e. let h = (c.begin n).0 e in absurd (no_choice n h.1.0 h.0 h.1.1), λ x. absurd x))
    (λ e. let h = c.turn.0 e in absurd (none h.0 false h.1), λ x. absurd x)
    (λ e. let h = c.finish.0 e in absurd (none h.0 true h.1), λ x. absurd x)
    (λ count e. absurd (differ count e))
  where
    differ : (count : ℕ) → Ready.Nothing ≡ Ready.Begin count → ⊥
    differ count e = cc

free-none : (s : Search) (lane : ℕ) (node : Fix) (ended : Bool) → IsFree s lane → Holds s lane node ended → ⊥
free-none s lane node ended free h = some-none (sym h.held ∙ free.nothing)
  where
    some-none : {x : Held} → Some x ≡ None → ⊥
    some-none e = cc

-- to turn or to finish, where a lane holds a node
pub told-held : (p : Task) (s : Search) (lane : ℕ) (node : Fix) (ended : Bool) → Holds s lane node ended → Tells p s lane (cond ended Ready.Finish Ready.Turn)
told-held p s lane node true h =
    let c = enabled_means p s lane in
    tells-by p s lane Ready.Finish
    (λ n. (λ e. let b = (c.begin n).0 e in absurd (free-none s lane node true b.0.free h), λ x. absurd x))
    (λ e. let q = c.turn.0 e in absurd (true≢false (one-state s lane node q.0 true false h q.1)), λ x. absurd x)
    (λ e. tt, λ x. c.finish.1 (node, h))
    (λ count e. absurd (differ count e))
  where
    differ : (count : ℕ) → Ready.Finish ≡ Ready.Begin count → ⊥
    differ count e = cc

    one-state : (s : Search) (lane : ℕ) (x y : Fix) (a b : Bool) → Holds s lane x a → Holds s lane y b → a ≡ b
    one-state s lane x y a b h k = inside (sym h.held ∙ k.held)
      where
        inside : {v w : Held} → Some v ≡ Some w → v.ended ≡ w.ended
        inside {v} {w} e = let f : v ≡ w = cc in ap (λ (u : Held). u.ended) f
told-held p s lane node false h =
    let c = enabled_means p s lane in
    tells-by p s lane Ready.Turn
    (λ n. (λ e. let b = (c.begin n).0 e in absurd (free-none s lane node false b.0.free h), λ x. absurd x))
    (λ e. tt, λ x. c.turn.1 (node, h))
    (λ e. let q = c.finish.0 e in absurd (true≢false (one-state s lane q.0 node true false q.1 h)), λ x. absurd x)
    (λ count e. absurd (differ count e))
  where
    differ : (count : ℕ) → Ready.Turn ≡ Ready.Begin count → ⊥
    differ count e = cc

    one-state : (s : Search) (lane : ℕ) (x y : Fix) (a b : Bool) → Holds s lane x a → Holds s lane y b → a ≡ b
    one-state s lane x y a b h k = inside (sym h.held ∙ k.held)
      where
        inside : {v w : Held} → Some v ≡ Some w → v.ended ≡ w.ended
        inside {v} {w} e = let f : v ≡ w = cc in ap (λ (u : Held). u.ended) f

place-below : (xs : List Fix) (n : ℕ) (x : Fix) → slice_get xs n ≡ Some x → n < length xs
place-below [] n x e = absurd (none-some e)
  where
    none-some : {w : Fix} → None ≡ Some w → ⊥
    none-some h = cc
place-below (z ∷ xs) zero x e = omega arith
place-below (z ∷ xs) (suc n) x e = let r = place-below xs n x e in omega (arith, r)

below-place : (xs : List Fix) (n : ℕ) → n < length xs → (x : Fix) × (slice_get xs n ≡ Some x)
below-place [] n lt = absurd (omega (arith, lt))
below-place (z ∷ xs) zero lt = (z, refl)
below-place (z ∷ xs) (suc n) lt = below-place xs n (omega (arith, lt))

-- to begin one of the choices, where it may begin
pub told-begin : (p : Task) (s : Search) (lane : ℕ) (nodes : List Fix) → MayBegin p s lane → AreChoices (MayChoose p s) nodes → 1 ≤ length nodes → Tells p s lane (Ready.Begin (length nodes))
told-begin p s lane nodes begin choices some =
    let c = enabled_means p s lane in
    tells-by p s lane (Ready.Begin (length nodes))
    (λ n. (
      λ e. let b = (c.begin n).0 e in place-below nodes n b.1.0 (choice-at p s nodes choices n b.1.0 b.1.1),
      λ lt. let q = below-place nodes n lt in (c.begin n).1 (begin, (q.0, record { nodes = nodes; choices = choices; place = q.1 })),
    ))
    (λ e. let q = c.turn.0 e in absurd (free-none s lane q.0 false begin.free q.1), λ x. absurd x)
    (λ e. let q = c.finish.0 e in absurd (free-none s lane q.0 true begin.free q.1), λ x. absurd x)
    (λ count e. let f : length nodes ≡ count = cc in omega (arith, f, some))

le-or-above : (a b : ℕ) → (a ≤ b) ⊎ (b < a)
le-or-above zero b = inl (omega arith)
le-or-above (suc a) zero = inr (omega arith)
le-or-above (suc a) (suc b) = ⊎_elim (λ h. inl (omega (arith, h))) (λ h. inr (omega (arith, h))) (le-or-above a b)

told-free : (p : Task) (s : Search) (lane : ℕ) → IsFree s lane → (ready : Ready) × Tells p s lane ready
told-free p s lane free = ⊎_elim
    (λ full. (Ready.Nothing, told-nothing p s lane held (λ n node b c. let r = b.room in absurd (omega (arith, r, full)))))
    (λ room. ⊎_elim
    (λ yes. by (choices_are_there p s).0 (choices_are_there p s).1 (record { free = free; room = room; open_yet = yes }))
    (λ shut. (Ready.Nothing, told-nothing p s lane held (λ n node b c. absurd (true≢false (sym b.open_yet ∙ shut)))))
    (cases_Bool (is_open p s)))
    (le-or-above p.nodes (length s.worked + busy_count s))
  where
    held : (node : Fix) (ended : Bool) → Holds s lane node ended → ⊥
    held node ended h = free-none s lane node ended free h

    by : (nodes : List Fix) → AreChoices (MayChoose p s) nodes → MayBegin p s lane → (ready : Ready) × Tells p s lane ready
    by [] c b = (Ready.Nothing, told-nothing p s lane held (λ n node begin choice. absurd (none-in ((c.each node).1 (choice-may p s n node choice)))))
    by (x ∷ xs) c b = (Ready.Begin (length (x ∷ xs)), told-begin p s lane (x ∷ xs) b c (omega arith))

pub lanes_are_told : LanesAreTold
lanes_are_told p s lane = ⊎_elim
    (λ low. ⊎_elim
    (λ high. by (lane_at s lane) refl low high)
    (λ past. (Ready.Nothing, told-nothing p s lane (λ node ended h. let r = h.in_range in omega (arith, r, past)) (λ n node b c. let r = b.free.in_range in omega (arith, r, past))))
    (le-or-above lane (length s.lanes)))
    (λ none. (Ready.Nothing, told-nothing p s lane (λ node ended h. let r = h.from_one in omega (arith, r, none)) (λ n node b c. let r = b.free.from_one in omega (arith, r, none))))
    (le-or-above 1 lane)
  where
    by : (o : Option Held) → lane_at s lane ≡ o → 1 ≤ lane → lane ≤ length s.lanes → (ready : Ready) × Tells p s lane ready
    by None e low high = told-free p s lane (record { from_one = low; in_range = high; nothing = e })
    by (Some h) e low high = (cond h.ended Ready.Finish Ready.Turn, told-held p s lane h.node h.ended (record { from_one = low; in_range = high; held = e }))

-- ---- two answers are one

same-count : (a b : ℕ) → ((n : ℕ) → n < a → n < b) → ((n : ℕ) → n < b → n < a) → a ≡ b
same-count zero zero f g = refl
same-count zero (suc b) f g = let h = g 0 (omega arith) in absurd (omega (arith, h))
same-count (suc a) zero f g = let h = f 0 (omega arith) in absurd (omega (arith, h))
same-count (suc a) (suc b) f g = let h = f a (omega arith) in let k = g b (omega arith) in omega (arith, h, k)

pub told_once : ToldOnce
told_once p s lane a b x y = by a b (λ e of h. (y.each e of).0 ((x.each e of).1 h)) (λ e of h. (x.each e of).0 ((y.each e of).1 h)) x.some y.some
  where
    by : (a b : Ready) → ((e : Event) → lane_of e ≡ lane → Allows a e → Allows b e) → ((e : Event) → lane_of e ≡ lane → Allows b e → Allows a e)
        → ((count : ℕ) → a ≡ Ready.Begin count → 1 ≤ count) → ((count : ℕ) → b ≡ Ready.Begin count → 1 ≤ count) → a ≡ b
    by Ready.Nothing Ready.Nothing f g k l = refl
    by Ready.Nothing (Ready.Begin d) f g k l = absurd (let one = l d refl in g (Begin lane 0) refl (omega (arith, one)))
    by Ready.Nothing Ready.Turn f g k l = absurd (g (Turn lane) refl tt)
    by Ready.Nothing Ready.Finish f g k l = absurd (g (Finish lane) refl tt)
    by (Ready.Begin c) Ready.Nothing f g k l = absurd (let one = k c refl in f (Begin lane 0) refl (omega (arith, one)))
    by (Ready.Begin c) (Ready.Begin d) f g k l = ap (λ (n : ℕ). Ready.Begin n) (same-count c d (λ n lt. f (Begin lane n) refl lt) (λ n lt. g (Begin lane n) refl lt))
    by (Ready.Begin c) Ready.Turn f g k l = absurd (g (Turn lane) refl tt)
    by (Ready.Begin c) Ready.Finish f g k l = absurd (g (Finish lane) refl tt)
    by Ready.Turn Ready.Nothing f g k l = absurd (f (Turn lane) refl tt)
    by Ready.Turn (Ready.Begin d) f g k l = absurd (f (Turn lane) refl tt)
    by Ready.Turn Ready.Turn f g k l = refl
    by Ready.Turn Ready.Finish f g k l = absurd (f (Turn lane) refl tt)
    by Ready.Finish Ready.Nothing f g k l = absurd (f (Finish lane) refl tt)
    by Ready.Finish (Ready.Begin d) f g k l = absurd (f (Finish lane) refl tt)
    by Ready.Finish Ready.Turn f g k l = absurd (f (Finish lane) refl tt)
    by Ready.Finish Ready.Finish f g k l = refl

-- ---- at the end

pub end_is_still : EndIsStill
end_is_still p s stop (takes lane node) t goes =
    let r = choices_are_there p s in
    let at = place-of r.0 node ((r.1.each node).1 (inl goes.1)) in
    stop (Begin lane at.0) (takes lane node, t, (refl, record { nodes = r.0; choices = r.1; place = at.1 }), goes)
end_is_still p s stop (branches lane acts) t goes =
    let r = choices_are_there p s in
    let b : MayBranch p s (prefix acts) = record { acts = acts; node_is = refl; nothing = goes.1; caps = goes.2; split = goes.3 } in
    let at = place-of r.0 (prefix acts) ((r.1.each (prefix acts)).1 (inr b)) in
    stop (Begin lane at.0) (branches lane acts, t, (refl, record { nodes = r.0; choices = r.1; place = at.1 }), goes)
end_is_still p s stop (moves lane) t goes = stop (Turn lane) (moves lane, t, refl, goes)
end_is_still p s stop (ends lane) t goes = stop (Turn lane) (ends lane, t, refl, goes)
end_is_still p s stop (works lane fact point) t goes = stop (Finish lane) (works lane fact point, t, refl, goes)
end_is_still p s stop (sticks lane cause) t goes = stop (Finish lane) (sticks lane cause, t, refl, goes)
