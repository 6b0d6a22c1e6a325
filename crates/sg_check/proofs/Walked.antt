-- The tests of nodes, of parts in order, of splits with their bases, and of the root.
use Rattle.std.proofs.Common.{◌≡◌, ◌∙◌, ℕ, ◌+◌, ◌<◌, ◌≤◌, ◌-◌, ◌^◌, min, false, List, [], ◌∷◌, ◌++◌, length, map, take, drop, get_or, pos, ◌≤ℤ◌, Option, Some, None, Result, Ok, Err, ap, subst, sym, refl, arith, inl, inr, length-append}
use Rattle.std.proofs.lemmas.List.{append-nil, append_assoc, drop_all, drop_more, take_all, take_more}
use Rattle.sg_model.specs.Games.{Game}
use Rattle.sg_model.specs.Limits.{is_scaled}
use Rattle.sg_frac.specs.Fractions.{Fraction, IsReduced, IsReducedForm}
use Rattle.sg_tree.specs.declared.fact.Fact.{Fact}
use Rattle.sg_tree.specs.declared.report.Cap.{Cap}
use Rattle.sg_tree.specs.declared.report.Report.{Report}
use Rattle.sg_tree.specs.declared.tree.Tree.{Tree}
use Rattle.sg_tree.specs.declared.tree.Tree.TheVariants.{Unproved, Closed, Split}
use Rattle.sg_bounds.specs.Checking.{AllPass, Passes, Stop, base_lines, fact_lines, fact_stops, forks, part_lines, part_stops, rooted, tree_lines, tree_stops}
use Rattle.sg_bounds.specs.Leaves.{base_bound, fact_bound, leaf_bounds, listed, part_bounds, root_bound}
use Rattle.sg_bounds.specs.Trees.{IsRoot, Node, Parts, closed, node_of, part_count, parts_of, split}
use Rattle.sg_check.specs.declared.fork.Fork.{Fork}
use Rattle.sg_check.specs.declared.refusal.Refusal.{Refusal}
use Rattle.sg_check.specs.declared.top.Top.{Top}
use Rattle.sg_check.specs.Answering.{BaseAnswers, BoundAnswers, FirstAnswers, ForkAnswers, IsGreatestBound, IsTopOf, NodeAnswers, PartsAnswer, RootAnswers, ShowsOnly, TellsFirst, TopAnswers, held_line}
use Rattle.sg_check.specs.Parts.{fork_stops}
use Rattle.sg_check.proofs.Firsts.{AllPass-append, FirstFails-left, FirstFails-right, IsRest, rest-fails, rest-itself, rest-next}
use Rattle.sg_check.proofs.Tops.{top-start}
use Rattle.sg_check.proofs.Trees.{node_of-Closed, node_of-Split, node_of-Unproved}

abbrev pub nodes : List Tree → Parts
nodes parts = parts_of (map node_of parts)

-- ---- a node without a fact, and one with a fact

pub open-answers : (g : Game) (r : Report) (acts : List ℕ) (t : Tree) (base : Option Fraction) (top after : Top) → t ≡ Unproved
    → ((n : ℕ) (bounds more : List Fraction) → ShowsOnly more base → IsTopOf top bounds n → IsTopOf after (bounds ++ more) (n + 1))
    → NodeAnswers g r acts (node_of t) base top (Ok after)
open-answers g r acts t base top after is h n above bounds shows so_far = rw (is, node_of-Unproved) (tt, h n bounds (listed above) shows so_far)

pub closed-answers : (g : Game) (r : Report) (acts : List ℕ) (t : Tree) (f : Fact) (base : Option Fraction) (top : Top) (result : Result Top Refusal) → t ≡ Closed f
    → NodeAnswers g r acts (closed f) base top result → NodeAnswers g r acts (node_of t) base top result
closed-answers g r acts t f base top result is h =
    subst (λ (x : Node). NodeAnswers g r acts x base top result) (sym (ap node_of is ∙ node_of-Closed f)) h

pub fact-passes : (g : Game) (r : Report) (acts : List ℕ) (f : Fact) (base : Option Fraction) (top : Top) (bound : Option Fraction) (lines next : ℕ) (best : Fraction)
    → ((n : ℕ) → top.next ≡ held_line n → BoundAnswers g r (fact_stops n acts f) (listed (fact_bound g r.caps (length acts) f)) (Ok bound))
    → lines ≡ held_line (fact_lines f) → next ≡ min (top.next + lines) (2 ^ 64 - 1)
    → ((bounds more : List Fraction) → IsGreatestBound top.best bounds → ShowsOnly more bound → IsGreatestBound best (bounds ++ more))
    → NodeAnswers g r acts (closed f) base top (Ok (record { next = next; best = best }))
fact-passes g r acts f base top bound lines next best h e k rises n above bounds shows so_far =
    let a = h n so_far.next in
    (a.0, record { best = rises bounds (listed (fact_bound g r.caps (length acts) f)) so_far.best a.1; next = omega (arith, so_far.next, e, k) })

-- tests that pass, and behind them those that tell the greatest of the bounds
pub top-then : (g : Game) (r : Report) (xs ys : List Stop) (bounds : List Fraction) (n : ℕ) (result : Result Top Refusal) → AllPass g r xs → TopAnswers g r ys bounds n result → TopAnswers g r (xs ++ ys) bounds n result
top-then g r xs ys bounds n (Ok top) h k = (AllPass-append g r xs ys h k.0, k.1)
top-then g r xs ys bounds n (Err f) h k = (k.0, FirstFails-right g r xs ys k.0 f.reason h k.1, k.2)

-- ---- bases and splits

pub base-open : (g : Game) (r : Report) (acts : List ℕ) (base : Option Fact) (n line next : ℕ) (shown bound : Option Fraction) → base ≡ None → line ≡ held_line n
    → next ≡ min (line + 1) (2 ^ 64 - 1) → ShowsOnly (listed shown) bound → BaseAnswers g r acts base n shown (Ok (record { next = next; bound = bound }))
base-open g r acts base n line next shown bound is e k shows = rw is (tt, shows, omega (arith, e, k))

pub base-closed : (g : Game) (r : Report) (acts : List ℕ) (base : Option Fact) (f : Fact) (n line lines next : ℕ) (shown bound : Option Fraction) → base ≡ Some f → line ≡ held_line n
    → lines ≡ held_line (fact_lines f) → next ≡ min (line + lines) (2 ^ 64 - 1)
    → BoundAnswers g r (fact_stops n acts f) (listed (fact_bound g r.caps (length acts) f)) (Ok bound)
    → BaseAnswers g r acts base n shown (Ok (record { next = next; bound = bound }))
base-closed g r acts base f n line lines next shown bound is e k l h = rw is (h.0, h.1, omega (arith, e, k, l))

pub base-fails : (g : Game) (r : Report) (acts : List ℕ) (base : Option Fact) (f : Fact) (n : ℕ) (shown : Option Fraction) (x : Refusal) → base ≡ Some f
    → TellsFirst g r (fact_stops n acts f) x → BaseAnswers g r acts base n shown (Err x)
base-fails g r acts base f n shown x is h = rw is h

-- a split that isn't the next one
pub fork-fails : (g : Game) (r : Report) (acts : List ℕ) (l count : ℕ) (base : Option Fact) (n line : ℕ) (shown : Option Fraction) → line ≡ held_line n → (Passes g r (forks acts l count) → ⊥)
    → ForkAnswers g r acts l count base n shown (Err (record { line = line; reason = 5 }))
fork-fails g r acts l count base n line shown e fails = (n, inl (fails, refl, refl), e)

-- and behind it its base
pub fork-base : (g : Game) (r : Report) (acts : List ℕ) (l count : ℕ) (base : Option Fact) (n : ℕ) (shown : Option Fraction) (result : Result Fork Refusal) → Passes g r (forks acts l count)
    → BaseAnswers g r acts base (n + 1) shown result → ForkAnswers g r acts l count base n shown result
fork-base g r acts l count base n shown (Ok fork) h k = ((h, k.0), k.1, k.2)
fork-base g r acts l count base n shown (Err f) h k = (k.0, inr (h, k.1), k.2)

-- a node that is a split, whose parts are tested behind its base
pub split-answers : (g : Game) (r : Report) (acts : List ℕ) (t : Tree) (l : ℕ) (own : Option Fact) (parts : List Tree) (base : Option Fraction) (top behind : Top) (fork : Fork) (result : Result Top Refusal)
    → t ≡ Split l own parts → behind.next ≡ fork.next → behind.best ≡ top.best
    → ((n : ℕ) (shown : Option Fraction) → top.next ≡ held_line n → ShowsOnly (listed shown) base → ForkAnswers g r acts l (part_count (nodes parts)) own n shown (Ok fork))
    → PartsAnswer g r acts (nodes parts) fork.bound behind result → NodeAnswers g r acts (node_of t) base top result
split-answers g r acts t l own parts base top behind fork result is next best forked parted n above bounds shows so_far =
    let f = forked n above so_far.next shows in
    let start : IsTopOf behind bounds (n + 1 + base_lines own) = record { best = subst (λ (b : Fraction). IsGreatestBound b bounds) (sym best) so_far.best; next = next ∙ f.2 } in
    let p = parted (n + 1 + base_lines own) (base_bound g r.caps (length acts) above own) bounds f.1 start in
    let node : node_of t ≡ split l own (nodes parts) = ap node_of is ∙ node_of-Split l own parts in
    let lines : n + 1 + base_lines own + part_lines (nodes parts) ≡ n + (1 + base_lines own + part_lines (nodes parts)) = omega arith in
    let q = subst (λ (m : ℕ). TopAnswers g r (part_stops (n + 1 + base_lines own) acts 1 (nodes parts)) (bounds ++ part_bounds g r.caps (length acts + 1) (base_bound g r.caps (length acts) above own) (nodes parts)) m result) lines p in
    rw node (top-then g r (fork_stops n acts l (part_count (nodes parts)) own) (part_stops (n + 1 + base_lines own) acts 1 (nodes parts)) _ _ result f.0 q)

-- one whose own test or whose base fails
pub split-fails : (g : Game) (r : Report) (acts : List ℕ) (t : Tree) (l : ℕ) (own : Option Fact) (parts : List Tree) (base : Option Fraction) (top : Top) (f : Refusal) → t ≡ Split l own parts
    → ((n : ℕ) (shown : Option Fraction) → top.next ≡ held_line n → ShowsOnly (listed shown) base → ForkAnswers g r acts l (part_count (nodes parts)) own n shown (Err f))
    → NodeAnswers g r acts (node_of t) base top (Err f)
split-fails g r acts t l own parts base top f is forked n above bounds shows so_far =
    let k = forked n above so_far.next shows in
    let node : node_of t ≡ split l own (nodes parts) = ap node_of is ∙ node_of-Split l own parts in
    rw node (k.0, FirstFails-left g r (fork_stops n acts l (part_count (nodes parts)) own) (part_stops (n + 1 + base_lines own) acts 1 (nodes parts)) k.0 f.reason k.1, k.2)

-- ---- parts in order

bounds-push : (g : Game) (caps : List Cap) (n : ℕ) (above : Option Fraction) (xs : List Tree) (x : Tree)
    → part_bounds g caps n above (nodes (xs ++ x ∷ [])) ≡ part_bounds g caps n above (nodes xs) ++ leaf_bounds g caps n above (node_of x)
bounds-push g caps n above [] x = append-nil (leaf_bounds g caps n above (node_of x))
bounds-push g caps n above (y ∷ xs) x =
    ap (λ (bs : List Fraction). leaf_bounds g caps n above (node_of y) ++ bs) (bounds-push g caps n above xs x)
    ∙ sym (append_assoc (leaf_bounds g caps n above (node_of y)) (part_bounds g caps n above (nodes xs)) (leaf_bounds g caps n above (node_of x)))

part_at : (parts : List Tree) (i : ℕ) (x : Tree) → i < length parts → x ≡ get_or parts i x → drop i parts ≡ x ∷ drop (i + 1) parts
part_at parts i x lt is = drop_more parts i x lt ∙ ap (λ (y : Tree). y ∷ drop (i + 1) parts) (sym is)

part_taken : (parts : List Tree) (i : ℕ) (x : Tree) → i < length parts → x ≡ get_or parts i x → take (i + 1) parts ≡ take i parts ++ x ∷ []
part_taken parts i x lt is = take_more parts i x lt ∙ ap (λ (y : Tree). take i parts ++ y ∷ []) (sym is)

module _ (g : Game) (r : Report) (acts : List ℕ) (n : ℕ) (above : Option Fraction) (bounds : List Fraction) (parts : List Tree) where
  -- the bounds of the first i parts, behind those before
  abbrev so_far : ℕ → List Fraction
  so_far i = bounds ++ part_bounds g r.caps (length acts + 1) above (nodes (take i parts))

  -- what a walk over parts from line n has come to, before part i
  pub record HasWalked (next : ℕ) (best : Fraction) (i : ℕ) : Type 0 where
    pub at : ℕ
    pub line : next ≡ held_line at
    pub rest : IsRest g r (part_stops n acts 1 (nodes parts)) (part_stops at acts (i + 1) (nodes (drop i parts)))
    pub lines : at + part_lines (nodes (drop i parts)) ≡ n + part_lines (nodes parts)
    pub top : IsGreatestBound best (so_far i)

  pub walk-start : (top : Top) → IsTopOf top bounds n → HasWalked top.next top.best 0
  walk-start top h = record {
    at = n;
    line = h.next;
    rest = rest-itself g r (part_stops n acts 1 (nodes parts));
    lines = refl;
    top = subst (IsGreatestBound top.best) (sym (append-nil bounds)) h.best;
  }

  module _ (next : ℕ) (best : Fraction) (i : ℕ) (x : Tree) (lt : i < length parts) (is : x ≡ get_or parts i x) (h : HasWalked next best i) (base : Option Fraction) (shows : ShowsOnly (listed above) base) where
    rest-here : IsRest g r (part_stops n acts 1 (nodes parts)) (part_stops h.at acts (i + 1) (nodes (x ∷ drop (i + 1) parts)))
    rest-here = subst (λ (ts : List Tree). IsRest g r (part_stops n acts 1 (nodes parts)) (part_stops h.at acts (i + 1) (nodes ts))) (part_at parts i x lt is) h.rest

    pub walk-top : (top : Top) → top.next ≡ next → top.best ≡ best → IsTopOf top (so_far i) h.at
    walk-top top e f = record { best = subst (λ (b : Fraction). IsGreatestBound b (so_far i)) (sym f) h.top; next = e ∙ h.line }

    pub walk-more : (top more : Top) → top.next ≡ next → top.best ≡ best → NodeAnswers g r (acts ++ (i + 1) ∷ []) (node_of x) base top (Ok more) → HasWalked more.next more.best (i + 1)
    walk-more top more e f answers =
        let a = answers h.at above (so_far i) shows (walk-top top e f) in
        let lines = subst (λ (ts : List Tree). h.at + part_lines (nodes ts) ≡ n + part_lines (nodes parts)) (part_at parts i x lt is) h.lines in
        let here : List Fraction = leaf_bounds g r.caps (length acts + 1) above (node_of x) in
        let count : length (acts ++ (i + 1) ∷ []) ≡ length acts + 1 = length-append acts ((i + 1) ∷ []) in
        let best_here = subst (λ (m : ℕ). IsGreatestBound more.best (so_far i ++ leaf_bounds g r.caps m above (node_of x))) count a.1.best in
        let before : List Fraction = part_bounds g r.caps (length acts + 1) above (nodes (take i parts)) in
        let taken : so_far i ++ here ≡ so_far (i + 1) =
        append_assoc bounds before here
        ∙ ap (λ (bs : List Fraction). bounds ++ bs) (sym (ap (λ (ts : List Tree). part_bounds g r.caps (length acts + 1) above (nodes ts)) (part_taken parts i x lt is) ∙ bounds-push g r.caps (length acts + 1) above (take i parts) x)) in
        record {
          at = h.at + tree_lines (node_of x);
          line = a.1.next;
          rest = rest-next g r (part_stops n acts 1 (nodes parts)) (tree_stops h.at (acts ++ (i + 1) ∷ []) (node_of x)) (part_stops (h.at + tree_lines (node_of x)) acts (i + 1 + 1) (nodes (drop (i + 1) parts))) rest-here a.0;
          lines = omega (arith, lines);
          top = subst (IsGreatestBound more.best) taken best_here;
        }

    pub walk-fails : (top : Top) (f : Refusal) → top.next ≡ next → top.best ≡ best → NodeAnswers g r (acts ++ (i + 1) ∷ []) (node_of x) base top (Err f) → TellsFirst g r (part_stops n acts 1 (nodes parts)) f
    walk-fails top f e k answers =
        let a = answers h.at above (so_far i) shows (walk-top top e k) in
        (a.0, rest-fails g r (part_stops n acts 1 (nodes parts)) (tree_stops h.at (acts ++ (i + 1) ∷ []) (node_of x)) (part_stops (h.at + tree_lines (node_of x)) acts (i + 1 + 1) (nodes (drop (i + 1) parts))) rest-here a.0 f.reason a.1, a.2)

  pub walk-end : (next : ℕ) (best : Fraction) (i : ℕ) → length parts ≤ i → HasWalked next best i
      → TopAnswers g r (part_stops n acts 1 (nodes parts)) (bounds ++ part_bounds g r.caps (length acts + 1) above (nodes parts)) (n + part_lines (nodes parts)) (Ok (record { next = next; best = best }))
  walk-end next best i le h =
      let none = drop_all i parts le in
      let lines = subst (λ (ts : List Tree). h.at + part_lines (nodes ts) ≡ n + part_lines (nodes parts)) none h.lines in
      let pass = h.rest.pass (subst (λ (ts : List Tree). AllPass g r (part_stops h.at acts (i + 1) (nodes ts))) (sym none) tt) in
      let same : h.at ≡ n + part_lines (nodes parts) = omega (arith, lines) in (
        pass,
        record {
          best = subst (λ (ts : List Tree). IsGreatestBound best (bounds ++ part_bounds g r.caps (length acts + 1) above (nodes ts))) (take_all i parts le) h.top;
          next = h.line ∙ ap held_line same;
        },
      )

-- ---- the root

-- a split of the root by another type, or with another number of parts
pub first-fails : (g : Game) (r : Report) (n line l : ℕ) (parts : List Tree) → line ≡ held_line n → (Passes g r (forks [] l (part_count (nodes parts))) → ⊥)
    → FirstAnswers g r n l (nodes parts) (Err (record { line = line; reason = 5 }))
first-fails g r n line l parts e fails = (n, inl (fails, refl, refl), e)

pub first-answers : (g : Game) (r : Report) (n l : ℕ) (parts : List Tree) (base : Option Fraction) (top : Top) (result : Result Top Refusal) → Passes g r (forks [] l (part_count (nodes parts)))
    → ShowsOnly (root_bound g ∷ []) base → IsTopOf top (r.value ∷ []) (n + 2) → PartsAnswer g r [] (nodes parts) base top result → FirstAnswers g r n l (nodes parts) result
first-answers g r n l parts base top result passes shows start h =
    let e : n + 2 ≡ n + 1 + 1 = omega arith in
    let lines : n + 2 + part_lines (nodes parts) ≡ n + (1 + 1 + part_lines (nodes parts)) = omega arith in
    let a = h (n + 2) (Some (root_bound g)) (r.value ∷ []) shows start in
    let b = subst (λ (m : ℕ). TopAnswers g r (part_stops (n + 2) [] 1 (nodes parts)) (r.value ∷ part_bounds g r.caps 1 (Some (root_bound g)) (nodes parts)) m result) lines a in
    let c = subst (λ (m : ℕ). TopAnswers g r (part_stops m [] 1 (nodes parts)) (r.value ∷ part_bounds g r.caps 1 (Some (root_bound g)) (nodes parts)) (n + (1 + 1 + part_lines (nodes parts))) result) e b in
    top-then g r (fork_stops n [] l (part_count (nodes parts)) None) (part_stops (n + 1 + 1) [] 1 (nodes parts)) _ _ result (passes, tt) c

-- the open base of the root
pub root-shown : (g : Game) (b : Fraction) → pos 1 ≤ℤ (root_bound g).den → IsReducedForm (root_bound g).num (root_bound g).den b → ShowsOnly (root_bound g ∷ []) (Some b)
root-shown g b some form = (root_bound g, refl, some, form)

pub root-start : (r : Report) (n line next : ℕ) (value : Fraction) → line ≡ held_line n → next ≡ min (line + 2) (2 ^ 64 - 1) → value ≡ r.value → IsReduced value
    → IsTopOf (record { next = next; best = value }) (r.value ∷ []) (n + 2)
root-start r n line next value e k same reduced =
    record { best = rw same (top-start r.value (subst IsReduced same reduced)); next = omega (arith, e, k) }

-- a root of another kind
pub root-fails : (g : Game) (r : Report) (n line : ℕ) (t : Node) → is_scaled g ≡ false → line ≡ held_line n → (Passes g r rooted → ⊥) → RootAnswers g r n t (Err (record { line = line; reason = 5 }))
root-fails g r n line t unscaled e fails = (n, inl (fails, refl, refl), e)

pub not_rooted : (g : Game) (r : Report) (t : Node) → is_scaled g ≡ false → node_of r.tree ≡ t → (IsRoot t → ⊥) → Passes g r rooted → ⊥
not_rooted g r t unscaled is no_root p =
    let q : IsRoot (node_of r.tree) = rw unscaled at p in
    no_root (subst IsRoot is q)

pub root-answers : (g : Game) (r : Report) (n l : ℕ) (parts : List Tree) (result : Result Top Refusal) → is_scaled g ≡ false → node_of r.tree ≡ split l None (nodes parts)
    → FirstAnswers g r n l (nodes parts) result → RootAnswers g r n (node_of r.tree) result
root-answers g r n l parts (Ok top) unscaled is h =
    let root : IsRoot (split l None (nodes parts)) = tt in
    rw (is, unscaled) ((root, h.0), h.1)
root-answers g r n l parts (Err f) unscaled is h =
    let root : IsRoot (split l None (nodes parts)) = tt in
    rw (is, unscaled) (h.0, inr (root, h.1), h.2)

pub split-is : (t : Tree) (l : ℕ) (base : Option Fact) (parts : List Tree) → t ≡ Split l base parts → base ≡ None → node_of t ≡ split l None (nodes parts)
split-is t l base parts is open_base = ap node_of is ∙ (node_of-Split l base parts ∙ ap (λ (b : Option Fact). split l b (nodes parts)) open_base)
