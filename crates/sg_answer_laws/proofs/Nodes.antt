-- The nodes of a search are nodes of its game, and its worked nodes have results.
use Rattle.std.proofs.Common.{◌≡◌, ◌≢◌, ◌⊎◌, ℕ, zero, suc, ◌+◌, ◌≤◌, ◌<◌, Bool, true, List, [], ◌∷◌, ◌++◌, length, sym, ap, subst, refl, arith, inl, inr, cond, count_by, slice_index_or}
use Rattle.std.specs.List.{All, zip}
use Rattle.std.proofs.lemmas.List.{length_push}
use Rattle.std.proofs.lemmas.List.Sums.{get_or-le-sum_by}
use Rattle.std.proofs.lemmas.List.Elements.{All-cons, All-nil}
use Rattle.sg_model.specs.Sums.{numbers_from}
use Rattle.sg_model.specs.Games.{Game, action_count}
use Rattle.sg_tree.specs.declared.fix.Fix.{Fix}
use Rattle.sg_tree.specs.declared.worked.Worked.{Worked}
use Rattle.sg_bounds.specs.Regions.{IsNode, prefix}
use Rattle.sg_search.specs.Searches.{Task, Search, ArePlaced, IsKnown, IsPartOf, same, worked_count}
use Rattle.sg_search.specs.declared.held.Stuck.{Stuck}
use Rattle.sg_search.proofs.Placed.{one_if, same-self}
use Rattle.sg_search.proofs.Grown.{AreSplits, last-of, worked-parent}

-- ---- actions of types in a row

-- each of some actions is one of its type, from type r on
abbrev pub AreActions : Game → ℕ → List ℕ → Type 0
AreActions g r [] = Unit {0}
AreActions g r (a ∷ acts) = ((1 ≤ a) × (a ≤ action_count g r)) × AreActions g (r + 1) acts

abbrev IsAct : Game → ℕ × ℕ → Type 0
IsAct g p = (1 ≤ p.1) × (p.1 ≤ action_count g p.0)

actions-all : (g : Game) (r : ℕ) (acts : List ℕ) → AreActions g r acts → All (IsAct g) (zip (numbers_from r (length acts)) acts)
actions-all g r [] h = All-nil (IsAct g)
actions-all g r (a ∷ acts) h = All-cons (IsAct g) (r, a) (zip (numbers_from (r + 1) (length acts)) acts) h.0 (actions-all g (r + 1) acts h.1)

-- one more action behind them
actions-more : (g : Game) (r : ℕ) (acts : List ℕ) (a : ℕ) → AreActions g r acts → 1 ≤ a → a ≤ action_count g (length acts + r) → AreActions g r (acts ++ (a ∷ []))
actions-more g r [] a h low high = let e : 0 + r ≡ r = omega arith in ((low, subst (λ (n : ℕ). a ≤ action_count g n) e high), tt)
actions-more g r (x ∷ acts) a h low high =
    let e : suc (length acts) + r ≡ length acts + (r + 1) = omega arith in
    (h.0, actions-more g (r + 1) acts a h.1 low (subst (λ (n : ℕ). a ≤ action_count g n) e high))

-- ---- known nodes

-- a split prefix takes actions of its types
split-actions : (p : Task) (s : Search) → ArePlaced p.game s → AreSplits p s → (n : ℕ) (acts : List ℕ) → length acts ≡ n → (acts ≡ []) ⊎ (1 ≤ worked_count s (prefix acts)) → AreActions p.game 1 acts
split-actions p s placed ok n [] e w = tt
split-actions p s placed ok zero (y ∷ ys) e w = absurd (omega (arith, e))
split-actions p s placed ok (suc n) (y ∷ ys) e (inl none) = let l : length (y ∷ ys) ≡ 0 = ap length none in absurd (omega (arith, l))
split-actions p s placed ok (suc n) (y ∷ ys) e (inr w) =
    let r = last-of y ys in
    let l = r.3 in
    let long : length r.0 ≡ n = omega (arith, l, e) in
    let up = worked-parent p s placed r.0 r.1 (subst (λ (z : List ℕ). 1 ≤ worked_count s (prefix z)) r.2 w) in
    subst (AreActions p.game 1) (sym r.2) (actions-more p.game 1 r.0 r.1 (split-actions p s placed ok n r.0 long (ok.worked r.0 up.0)) up.1 up.2)

some-push : (acts : List ℕ) (a : ℕ) → acts ++ (a ∷ []) ≢ []
some-push acts a e = let l = length_push acts a in let z : length (acts ++ (a ∷ [])) ≡ 0 = ap length e in omega (arith, l, z)

-- a known node is a node of the game
pub known-node : (p : Task) (s : Search) → ArePlaced p.game s → AreSplits p s → (x : Fix) → IsKnown p.game s x → IsNode p.game x
known-node p s placed ok x (inl below) =
    let g = p.game in
    let acts = below.0 in
    let of : IsPartOf g below.0 x = below.2 in
    let short = ok.short acts below.1 in
    let above = split-actions p s placed ok (length acts) acts refl (ok.worked acts below.1) in
    let all : AreActions g 1 (acts ++ (of.act ∷ [])) = actions-more g 1 acts of.act above of.from_one of.in_range in
    let l = length_push acts of.act in
    subst (IsNode g) (sym of.node_is) (record {
      is_fix = record { some = some-push acts of.act; from_one = omega arith; in_range = omega (arith, l, short); acts = actions-all g 1 (acts ++ (of.act ∷ [])) all };
      form = inl refl;
    })
known-node p s placed ok x (inr lone) =
    let g = p.game in
    let low = lone.from_two in
    let high = lone.type_in_range in
    subst (IsNode g) (sym lone.node_is) (record {
      is_fix = record { some = (λ e. cc); from_one = omega (arith, low); in_range = omega (arith, high); acts = actions-all g lone.l (lone.act ∷ []) ((lone.from_one, lone.in_range), tt) };
      form = inr (low, refl);
    })

-- ---- worked and stuck nodes

-- what is counted where it stands in a list
counted-at : {X : Type 0} (q : X → Bool) (xs : List X) (i : ℕ) (d : X) → i < length xs → q (slice_index_or xs i d) ≡ true → 1 ≤ count_by q xs
counted-at q xs i d lt e =
    let le = get_or-le-sum_by (λ x. cond (q x) 1 0) xs i d lt in
    let one : one_if (q (slice_index_or xs i d)) ≡ 1 = ap one_if e in
    omega (arith, le, one)

pub worked-nodes : (p : Task) (s : Search) → ArePlaced p.game s → AreSplits p s → All (λ (w : Worked). IsNode p.game w.fix) s.worked
worked-nodes p s placed ok i d lt =
    let w : Worked = slice_index_or s.worked i d in
    let some = counted-at (λ (v : Worked). same w.fix v.fix) s.worked i d lt (same-self w.fix) in
    known-node p s placed ok w.fix (placed.known w.fix (omega (arith, some)))

pub stuck-nodes : (p : Task) (s : Search) → ArePlaced p.game s → AreSplits p s → All (λ (x : Stuck). IsNode p.game x.node) s.stuck
stuck-nodes p s placed ok i d lt =
    let x : Stuck = slice_index_or s.stuck i d in
    let some = counted-at (λ (y : Stuck). same x.node y.node) s.stuck i d lt (same-self x.node) in
    known-node p s placed ok x.node (placed.known x.node (omega (arith, some)))
