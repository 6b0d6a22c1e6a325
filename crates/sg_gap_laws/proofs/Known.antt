-- The nodes that a search knows are nodes of the game.
use Rattle.std.proofs.Common.{◌≡◌, ℕ, suc, ◌+◌, ◌≤◌, cond, List, [], ◌∷◌, ◌++◌, length, get_or, count_by, sym, ◌∙◌, ap, subst, refl, arith, inl, inr, ⊎_elim, Contains, append_assoc, length-append}
use Rattle.std.specs.List.{All, zip}
use Rattle.std.proofs.lemmas.Bool.{cases_Bool}
use Rattle.std.proofs.lemmas.List.{length_push, same_from_push}
use Rattle.std.proofs.lemmas.List.Sums.{get_or-le-sum_by, sum_by-cons}
use Rattle.std.proofs.lemmas.List.Elements.{All-nil, All-cons}
use Rattle.sg_model.specs.Sums.{numbers_from}
use Rattle.sg_model.specs.Games.{Game, action_count}
use Rattle.sg_tree.specs.declared.fix.Fix.{Fix}
use Rattle.sg_tree.specs.declared.worked.Worked.{Worked}
use Rattle.sg_bounds.specs.Regions.{IsNode, prefix}
use Rattle.sg_search.specs.declared.held.Stuck.{Stuck}
use Rattle.sg_search.specs.Searches.{Task, Search, same, worked_count, stuck_count, ArePlaced, IsCapNode, IsKnown, IsPartOf}
use Rattle.sg_search.proofs.Listing.{here-in, later-in}
use Rattle.sg_search.proofs.Placed.{one_if, same-is, same-self}
use Rattle.sg_search.proofs.Grown.{AreSplits, ancestors, last-of}

-- a node that is counted among some is that of one of them
pub found-in : {X : Type 0} (key : X → Fix) (x : Fix) (xs : List X) → 1 ≤ count_by (λ (y : X). same x (key y)) xs → (y : X) × Contains xs y × (key y ≡ x)
found-in key x [] h = absurd (omega (arith, h))
found-in {X} key x (y ∷ xs) h =
    let c = sum_by-cons (λ (z : X). cond (same x (key z)) 1 0) y xs in
    ⊎_elim
    (λ yes. (y, here-in y xs, sym (same-is x (key y) yes)))
    (λ out. let z : one_if (same x (key y)) ≡ 0 = ap one_if out in let r = found-in key x xs (omega (arith, h, c, z)) in (r.0, later-in y xs r.0 r.1, r.2))
    (cases_Bool (same x (key y)))

-- an action of a type, counted from 1
abbrev pub IsActionOf : Game → ℕ × ℕ → Type 0
IsActionOf g q = (1 ≤ q.1) × (q.1 ≤ action_count g q.0)

-- actions of the types from the next one on, where each is one wherever the list is cut
acts-in : (g : Game) (all : List ℕ) → ((x : List ℕ) (a : ℕ) (ys : List ℕ) → all ≡ x ++ (a ∷ ys) → IsActionOf g (length x + 1, a))
    → (x ys : List ℕ) (k : ℕ) → all ≡ x ++ ys → length x + 1 ≡ k → All (IsActionOf g) (zip (numbers_from k (length ys)) ys)
acts-in g all each x [] k e l = All-nil (IsActionOf g)
acts-in g all each x (a ∷ ys) k e l =
    let long = length_push x a in
    All-cons (IsActionOf g) (k, a) (zip (numbers_from (k + 1) (length ys)) ys)
    (subst (λ (n : ℕ). IsActionOf g (n, a)) l (each x a ys e))
    (acts-in g all each (x ++ (a ∷ [])) ys (k + 1) (e ∙ sym (append_assoc x (a ∷ []) ys)) (omega (arith, long, l)))

module _ (p : Task) (s : Search) (placed : ArePlaced p.game s) (ok : AreSplits p s) where
  abbrev g : Game
  g = p.game

  -- where a split prefix is cut, what comes next is an action of the next type
  split-acts : (acts : List ℕ) → Contains s.splits acts → (x : List ℕ) (a : ℕ) (ys : List ℕ) → acts ≡ x ++ (a ∷ ys) → IsActionOf g (length x + 1, a)
  split-acts acts at x a ys e = ⊎_elim
      (λ none. absurd (let l : length (x ++ (a ∷ ys)) ≡ 0 = ap length (sym e ∙ none) in let k = length-append x (a ∷ ys) in omega (arith, l, k)))
      (λ worked. let up = ancestors p s placed ok (length ys) x a ys refl (subst (λ (z : List ℕ). 1 ≤ worked_count s (prefix z)) e worked) in (up.1, up.2))
      (ok.worked acts at)

  -- so too in a part of one
  part-acts : (acts : List ℕ) (node : Fix) → Contains s.splits acts → (of : IsPartOf g acts node) → (x : List ℕ) (a : ℕ) (ys : List ℕ) → acts ++ (of.act ∷ []) ≡ x ++ (a ∷ ys)
      → IsActionOf g (length x + 1, a)
  part-acts acts node at of x a [] e =
      let same_as = same_from_push acts x of.act a e in
      subst (λ (z : List ℕ). IsActionOf g (length z + 1, a)) same_as.0 (subst (λ (b : ℕ). IsActionOf g (length acts + 1, b)) same_as.1 (of.from_one, of.in_range))
  part-acts acts node at of x a (y ∷ ys) e =
      let r = last-of y ys in
      let q : acts ++ (of.act ∷ []) ≡ (x ++ (a ∷ r.0)) ++ (r.1 ∷ []) = e ∙ ap (λ (z : List ℕ). x ++ (a ∷ z)) r.2 ∙ sym (append_assoc x (a ∷ r.0) (r.1 ∷ [])) in
      split-acts acts at x a r.0 (same_from_push acts (x ++ (a ∷ r.0)) of.act r.1 q).0

  pub part-node : (acts : List ℕ) (node : Fix) → Contains s.splits acts → IsPartOf g acts node → IsNode g node
  part-node acts node at of =
      let all : List ℕ = acts ++ (of.act ∷ []) in
      let long = length_push acts of.act in
      let short = ok.short acts at in
      subst (IsNode g) (sym of.node_is) (record {
        is_fix = record {
          some = λ e. let z : length all ≡ 0 = ap length e in omega (arith, z, long);
          from_one = omega arith;
          in_range = omega (arith, long, short);
          acts = acts-in g all (part-acts acts node at of) [] all 1 refl refl;
        };
        form = inl refl;
      })

  pub cap-node : (node : Fix) → IsCapNode g node → IsNode g node
  cap-node node lone =
      let low = lone.from_two in
      let high = lone.type_in_range in
      subst (IsNode g) (sym lone.node_is) (record {
        is_fix = record {
          some = λ e. let z : 1 ≡ 0 = ap length e in omega (arith, z);
          from_one = omega (arith, low);
          in_range = omega (arith, high);
          acts = All-cons (IsActionOf g) (lone.l, lone.act) [] (lone.from_one, lone.in_range) (All-nil (IsActionOf g));
        };
        form = inr (low, refl);
      })

  -- each known node is a node of the game
  pub known-node : (node : Fix) → IsKnown g s node → IsNode g node
  known-node node (inl below) = part-node below.0 node below.1 below.2
  known-node node (inr lone) = cap-node node lone

  -- so is each worked one, and each stuck one
  pub worked-is : (i : ℕ) (d : Worked) → suc i ≤ length s.worked → 1 ≤ worked_count s (get_or s.worked i d).fix
  worked-is i d lt =
      let w : Worked = get_or s.worked i d in
      let c = get_or-le-sum_by (λ (v : Worked). cond (same w.fix v.fix) 1 0) s.worked i d lt in
      let y : one_if (same w.fix w.fix) ≡ 1 = ap one_if (same-self w.fix) in
      omega (arith, c, y)

  pub stuck-is : (i : ℕ) (d : Stuck) → suc i ≤ length s.stuck → 1 ≤ stuck_count s (get_or s.stuck i d).node
  stuck-is i d lt =
      let x : Stuck = get_or s.stuck i d in
      let c = get_or-le-sum_by (λ (v : Stuck). cond (same x.node v.node) 1 0) s.stuck i d lt in
      let y : one_if (same x.node x.node) ≡ 1 = ap one_if (same-self x.node) in
      omega (arith, c, y)

  pub worked-nodes : All (λ (w : Worked). IsNode g w.fix) s.worked
  worked-nodes i d lt = let c = worked-is i d lt in known-node (get_or s.worked i d).fix (placed.known (get_or s.worked i d).fix (omega (arith, c)))

  pub stuck-nodes : All (λ (x : Stuck). IsNode g x.node) s.stuck
  stuck-nodes i d lt = let c = stuck-is i d lt in known-node (get_or s.stuck i d).node (placed.known (get_or s.stuck i d).node (omega (arith, c)))
