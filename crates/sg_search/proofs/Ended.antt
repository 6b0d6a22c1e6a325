-- Where no event may happen.
use Rattle.std.proofs.Common.{◌≡◌, ◌⊎◌, ℕ, zero, suc, ◌+◌, ◌≤◌, ◌<◌, Bool, true, false, cond, List, [], ◌∷◌, length, get_or, count_by, is_some, ◌*ℤ◌, ◌≤ℤ◌, ◌∙◌, ap, refl, arith, Option, Some, None, inl, inr, ⊎_elim, Contains, All}
use Rattle.std.specs.List.{list_any}
use Rattle.std.specs.Prelude.{int_lt}
use Rattle.std.proofs.lemmas.Int.{ints}
use Rattle.std.proofs.lemmas.Bool.{cases_Bool, or_parts}
use Rattle.std.proofs.lemmas.List.Sums.{sum_by-cons}
use Rattle.std.proofs.lemmas.List.Elements.{All-nil, All-cons}
use Rattle.sg_frac.specs.Fractions.{Fraction}
use Rattle.sg_tree.specs.declared.fix.Fix.{Fix}
use Rattle.sg_bounds.specs.Facts.{no_fact}
use Rattle.sg_bounds.specs.Leaves.{tree_bounds_of}
use Rattle.sg_bounds.specs.Accepted.{IsNotAbove}
use Rattle.sg_search.specs.declared.held.Held.{Held}
use Rattle.sg_search.specs.Searches.{Task, Search, lane_at, holds_node, held_count, worked_count, stuck_count, IsPartOf}
use Rattle.sg_search.specs.Bounding.{caps_of, inherited, exceeds, is_open, is_over, lower, tree_of}
use Rattle.sg_search.specs.Changes.{takes, branches, moves, works, IsStill, MayBegin, MayTake, CapsAreDone}
use Rattle.sg_search.specs.EndLaws.{EndMeans, IsBarred}
use Rattle.sg_search.proofs.Placed.{one_if}
use Rattle.sg_search.proofs.Counted.{budget_kept}

none-count : (q : Option Held → Bool) → q None ≡ false → (xs : List (Option Held)) → ((i : ℕ) → i < length xs → get_or xs i None ≡ None) → count_by q xs ≡ 0
none-count q e [] each = refl
none-count q e (x ∷ xs) each =
    let r = none-count q e xs (λ i lt. each (suc i) (omega (arith, lt))) in
    let h : q x ≡ false = ap q (each 0 (omega arith)) ∙ e in
    sum_by-cons (λ y. cond (q y) 1 0) x xs ∙ ap (λ (b : Bool). one_if b + count_by q xs) h ∙ (omega (arith, r))

-- a lane that holds a node has an event
lane-free : (p : Task) (s : Search) → IsStill p s → (lane : ℕ) → 1 ≤ lane → lane ≤ length s.lanes → lane_at s lane ≡ None
lane-free p s stop lane low high = by (lane_at s lane) refl
  where
    by : (o : Option Held) → lane_at s lane ≡ o → lane_at s lane ≡ None
    by None e = e
    by (Some h) e = absurd (⊎_elim
        (λ yes. stop (works lane no_fact None) _ (h.node, record { from_one = low; in_range = high; held = e ∙ ap (λ (b : Bool). Some (record { node = h.node; ended = b })) yes }, refl))
        (λ no. stop (moves lane) s (h.node, record { from_one = low; in_range = high; held = e ∙ ap (λ (b : Bool). Some (record { node = h.node; ended = b })) no }, refl))
        (cases_Bool h.ended))

none-above : (v : Fraction) (bs : List Fraction) → list_any (λ b. exceeds b v) bs ≡ false → All (λ b. IsNotAbove b v) bs
none-above v [] e = All-nil (λ b. IsNotAbove b v)
none-above v (b ∷ bs) e =
    let q = or_parts (exceeds b v) (list_any (λ b. exceeds b v) bs) e in
    All-cons (λ b. IsNotAbove b v) b bs (not-lt (v.num *ℤ b.den) (b.num *ℤ v.den) q.0) (none-above v bs q.1)
  where
    not-lt : (x y : Rattle.std.specs.Prelude.ℤ) → int_lt x y ≡ false → y ≤ℤ x
    not-lt x y h = omega (arith, ints, h)

zero-or-more : (n : ℕ) → (n ≡ 0) ⊎ (1 ≤ n)
zero-or-more zero = inl refl
zero-or-more (suc n) = inr (omega arith)

full-or-room : (a b : ℕ) → (b ≤ a) ⊎ (a < b)
full-or-room a zero = inl (omega arith)
full-or-room zero (suc b) = inr (omega arith)
full-or-room (suc a) (suc b) = ⊎_elim (λ h. inl (omega (arith, h))) (λ h. inr (omega (arith, h))) (full-or-room a b)

-- where a lane may begin and no event may happen, what is open is stuck
barred : (p : Task) (s : Search) → IsStill p s → ((x : Fix) → held_count s x ≡ 0) → MayBegin p s 1 → IsBarred p s
barred p s stop none begin = record { parts = parts; splits = λ acts may. stop (branches 1 acts) _ (begin, no_take, caps, may, refl); caps = caps }
  where
    no_take : (node : Fix) → ¬ (MayTake p s node)
    no_take node may = stop (takes 1 node) _ (begin, may, refl)

    caps : CapsAreDone p.game s
    caps node cap = ⊎_elim
        (λ e. let h = none node in absurd (no_take node (record { waits = (inr cap, omega (arith, e, h)); worth = inr cap })))
        (λ more. more)
        (zero-or-more (worked_count s node + stuck_count s node))

    parts : (acts : List ℕ) (node : Fix) → Contains s.splits acts → IsPartOf p.game acts node → is_over p s (inherited p.game s acts) ≡ true → worked_count s node ≡ 0 → 1 ≤ stuck_count s node
    parts acts node at part over unworked = ⊎_elim
        (λ e. let h = none node in absurd (no_take node (record { waits = (inl (acts, at, part), omega (arith, e, h, unworked)); worth = inl (acts, part, over) })))
        (λ more. more)
        (zero-or-more (stuck_count s node))

pub end_means : EndMeans
end_means p peopled some cs t run stop =
    let b = budget_kept p peopled cs t run in
    let nodes = b.nodes in
    let lanes = b.lanes in
    let free : (i : ℕ) → i < length t.lanes → get_or t.lanes i None ≡ None = λ i lt. lane-free p t stop (suc i) (omega arith) (omega (arith, lt)) in
    let busy = none-count is_some refl t.lanes free in (
      busy,
      ⊎_elim
          (λ yes. ⊎_elim
          (λ full. inr (inl (omega (arith, full, nodes))))
          (λ room. inr (inr (barred p t stop (λ x. none-count (holds_node x) refl t.lanes free)
          (record {
            free = record { from_one = omega arith; in_range = omega (arith, lanes, some); nothing = lane-free p t stop 1 (omega arith) (omega (arith, lanes, some)) };
            room = omega (arith, busy, room);
            open_yet = yes;
          }))))
          (full-or-room (length t.worked) p.nodes))
          (λ no. inl (none-above (lower p t) (tree_bounds_of p.game (caps_of p.game t) (tree_of p.game t)) no))
          (cases_Bool (is_open p t)),
    )
