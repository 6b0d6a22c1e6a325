-- Nodes keep their places.
use Rattle.std.proofs.Common.{◌≡◌, ◌⊎◌, ℕ, zero, suc, ◌+◌, ◌-◌, ◌≤◌, Bool, true, false, cond, nat_eq, List, [], ◌∷◌, ◌++◌, length, set, replicate, count_by, bytes_eq, sym, ◌∙◌, ap, ap₂, subst, refl, arith, Option, Some, None, inl, inr, ⊎_elim, true≢false, Contains}
use Rattle.std.proofs.lemmas.List.{same_from_push}
use Rattle.std.proofs.lemmas.Slice.Eq.{bytes_eq-Decides}
use Rattle.std.proofs.lemmas.Bool.{cases_Bool, and_parts, and_from, eqb-true, eq-eqb}
use Rattle.std.proofs.lemmas.List.Sums.{sum_by-cons, sum_by-set, sum_by_push}
use Rattle.std.proofs.lemmas.List.Elements.{Contains-append_left, Contains-push}
use Rattle.std.proofs.lemmas.List.Folds.{list_any-from_Any}
use Rattle.sg_model.specs.Games.{Game}
use Rattle.sg_model.specs.Payoffs.{IsPeopled}
use Rattle.sg_tree.specs.declared.fix.Fix.{Fix}
use Rattle.sg_tree.specs.declared.worked.Worked.{Worked}
use Rattle.sg_search.specs.declared.held.Held.{Held}
use Rattle.sg_search.specs.declared.held.Stuck.{Stuck}
use Rattle.sg_search.specs.Searches.{Task, Search, first_search, lane_at, same, holds_node, held_count, worked_count, stuck_count, taken_count, IsPartOf, IsCapNode, IsKnown, ArePlaced}
use Rattle.sg_search.specs.Changes.{Change, takes, branches, moves, ends, works, sticks, Goes, Runs, with_lane, begun, first_part, Holds, IsFree}
use Rattle.sg_search.specs.Bounding.{is_split}
use Rattle.sg_search.specs.PlaceLaws.{KnownInOnePlace}

-- 1 where a test passes, else 0
abbrev pub one_if : Bool → ℕ
one_if b = cond b 1 0

pub same-is : (a b : Fix) → same a b ≡ true → a ≡ b
same-is a b e =
    let parts = and_parts (nat_eq a.first b.first) (bytes_eq a.acts b.acts) e in
    let f : a.first ≡ b.first = eqb-true a.first b.first parts.0 in
    let h : a.acts ≡ b.acts = (bytes_eq-Decides a.acts b.acts).0 parts.1 in
    ap₂ (λ (first : ℕ) (acts : List ℕ). record { first = first; acts = acts }) f h

pub same-self : (a : Fix) → same a a ≡ true
same-self a = and_from (nat_eq a.first a.first) (bytes_eq a.acts a.acts) (eq-eqb a.first a.first refl) ((bytes_eq-Decides a.acts a.acts).1 refl)

-- what a lane is given counts in place of what it held
pub lane-set : (q : Option Held → Bool) (s : Search) (lane : ℕ) (h : Option Held) → 1 ≤ lane → lane ≤ length s.lanes
    → count_by q (set s.lanes (lane - 1) h) + one_if (q (lane_at s lane)) ≡ count_by q s.lanes + one_if (q h)
lane-set q s zero h low high = absurd (omega (arith, low))
lane-set q s (suc k) h low high =
    let e : suc k - 1 ≡ k = omega arith in
    rw e (sum_by-set (λ x. cond (q x) 1 0) s.lanes k h None (omega (arith, high)))

pub one_if-le : (b : Bool) → one_if b ≤ 1
one_if-le true = omega arith
one_if-le false = omega arith

-- a part of a split is no cap node
pub part-no_cap : (g : Game) (acts : List ℕ) (node : Fix) → IsPartOf g acts node → IsCapNode g node → ⊥
part-no_cap g acts node part cap =
    let e : 1 ≡ cap.l = ap (λ (x : Fix). x.first) (sym part.node_is ∙ cap.node_is) in
    let two = cap.from_two in
    omega (arith, e, two)

-- a node that is a part of two splits is a part of one
pub part-one : (g : Game) (a b : List ℕ) (node : Fix) → IsPartOf g a node → IsPartOf g b node → a ≡ b
part-one g a b node x y =
    let e : a ++ (x.act ∷ []) ≡ b ++ (y.act ∷ []) = ap (λ (f : Fix). f.acts) (sym x.node_is ∙ y.node_is) in
    (same_from_push a b x.act y.act e).0

-- ---- how often a node is taken

-- a lane that was free holds one more node
pub taken-begun : (s : Search) (lane : ℕ) (node x : Fix) → IsFree s lane → taken_count (with_lane s lane (begun node)) x ≡ taken_count s x + one_if (same x node)
taken-begun s lane node x free =
    let e = lane-set (holds_node x) s lane (begun node) free.from_one free.in_range in
    let f : count_by (holds_node x) (set s.lanes (lane - 1) (begun node)) + 0 ≡ held_count s x + one_if (same x node) = rw free.nothing at e in
    omega (arith, f)

-- a lane that held a node holds none
pub held-let_go : (s : Search) (lane : ℕ) (node x : Fix) (b : Bool) → Holds s lane node b → held_count (with_lane s lane None) x + one_if (same x node) ≡ held_count s x
held-let_go s lane node x b h =
    let e = lane-set (holds_node x) s lane None h.from_one h.in_range in
    let f : count_by (holds_node x) (set s.lanes (lane - 1) None) + one_if (same x node) ≡ held_count s x + 0 = rw h.held at e in
    omega (arith, f)

-- a lane holds the same node, ended
pub held-ended : (s : Search) (lane : ℕ) (node x : Fix) (a b : Bool) → Holds s lane node a → held_count (with_lane s lane (Some (record { node = node; ended = b }))) x ≡ held_count s x
held-ended s lane node x a b h =
    let e = lane-set (holds_node x) s lane (Some (record { node = node; ended = b })) h.from_one h.in_range in
    let f : count_by (holds_node x) (set s.lanes (lane - 1) (Some (record { node = node; ended = b }))) + one_if (same x node) ≡ held_count s x + one_if (same x node) = rw h.held at e in
    omega (arith, f)

pub worked-more : (s : Search) (w : Worked) (x : Fix) → count_by (λ (v : Worked). same x v.fix) (s.worked ++ (w ∷ [])) ≡ worked_count s x + one_if (same x w.fix)
worked-more s w x = sum_by_push (λ (v : Worked). cond (same x v.fix) 1 0) s.worked w

pub stuck-more : (s : Search) (w : Stuck) (x : Fix) → count_by (λ (v : Stuck). same x v.node) (s.stuck ++ (w ∷ [])) ≡ stuck_count s x + one_if (same x w.node)
stuck-more s w x = sum_by_push (λ (v : Stuck). cond (same x v.node) 1 0) s.stuck w

-- ---- places are kept

-- where nodes are taken as often as before, and the splits are those of before and maybe more
same-taken : (g : Game) (s t : Search) → ((x : Fix) → taken_count t x ≡ taken_count s x) → ((x : Fix) → IsKnown g s x → IsKnown g t x) → ArePlaced g s → ArePlaced g t
same-taken g s t e k placed = record {
  once = λ x. let o = placed.once x in let f = e x in omega (arith, o, f);
  known = λ x h. let f = e x in k x (placed.known x (omega (arith, h, f)));
}

-- where one more node is taken, which was known and not taken
one-more : (g : Game) (s t : Search) (node : Fix) → ((x : Fix) → taken_count t x ≡ taken_count s x + one_if (same x node)) → ((x : Fix) → IsKnown g s x → IsKnown g t x)
    → taken_count s node ≡ 0 → IsKnown g t node → ArePlaced g s → ArePlaced g t
one-more g s t node e k fresh known placed = record {
  once = λ x. ⊎_elim
      (λ yes. let f = e x in let o : taken_count s x ≡ 0 = ap (taken_count s) (same-is x node yes) ∙ fresh in let q = one_if-le (same x node) in omega (arith, f, o, q))
      (λ no. let f = e x in let o = placed.once x in let q : one_if (same x node) ≡ 0 = ap one_if no in omega (arith, f, o, q))
      (cases_Bool (same x node));
  known = λ x h. ⊎_elim
      (λ yes. subst (IsKnown g t) (sym (same-is x node yes)) known)
      (λ no. let f = e x in let q : one_if (same x node) ≡ 0 = ap one_if no in k x (placed.known x (omega (arith, f, q, h))))
      (cases_Bool (same x node));
}

-- a part of a prefix that isn't split is not taken
pub unsplit-fresh : (p : Task) (s : Search) (acts : List ℕ) → ArePlaced p.game s → (node : Fix) → IsPartOf p.game acts node → (Contains s.splits acts → ⊥) → taken_count s node ≡ 0
unsplit-fresh p s acts placed node part not_in =
    ⊎_elim (λ zero_is. zero_is) (λ more. absurd (⊎_elim
    (λ x. not_in (subst (Contains s.splits) (part-one p.game x.0 acts node x.2 part) x.1))
    (λ cap. part-no_cap p.game acts node part cap)
    (placed.known node more)))
    (zero-or-more (taken_count s node))
  where
    zero-or-more : (n : ℕ) → (n ≡ 0) ⊎ (1 ≤ n)
    zero-or-more zero = inl refl
    zero-or-more (suc n) = inr (omega arith)

pub split-in : (splits : List (List ℕ)) (acts : List ℕ) → is_split splits acts ≡ false → Contains splits acts → ⊥
split-in splits acts none at =
    true≢false (sym (list_any-from_Any (bytes_eq acts) splits (at.0, acts, at.1, at.2, (bytes_eq-Decides acts acts).1 refl)) ∙ none)

known-more : (g : Game) (s t : Search) (acts : List ℕ) → t.splits ≡ s.splits ++ (acts ∷ []) → (x : Fix) → IsKnown g s x → IsKnown g t x
known-more g s t acts e x (inl part) = inl (part.0, subst (λ (l : List (List ℕ)). Contains l part.0) (sym e) (Contains-append_left s.splits (acts ∷ []) part.0 part.1), part.2)
known-more g s t acts e x (inr cap) = inr cap

pub step-placed : (p : Task) → IsPeopled p.game → (s : Search) → ArePlaced p.game s → (c : Change) (t : Search) → Goes p s c t → ArePlaced p.game t
step-placed p peopled s placed (takes lane node) t goes =
    let begin = goes.0 in
    let may = goes.1 in
    let u = with_lane s lane (begun node) in
    subst (ArePlaced p.game) (sym goes.2)
    (one-more p.game s u node (λ x. taken-begun s lane node x begin.free) (λ x k. k) may.waits.1 may.waits.0 placed)
step-placed p peopled s placed (branches lane acts) t goes =
    let begin = goes.0 in
    let split = goes.3 in
    let short = split.short in
    let node = first_part acts in
    let u : Search = record (with_lane s lane (begun node)) { splits = s.splits ++ (acts ∷ []) } in
    let part : IsPartOf p.game acts node = record { act = 1; from_one = omega arith; in_range = peopled.actions (length acts + 1) (omega arith) (omega (arith, short)); node_is = refl } in
    let fresh = unsplit-fresh p s acts placed node part (split-in s.splits acts split.unsplit) in
    subst (ArePlaced p.game) (sym goes.4)
    (one-more p.game s u node (λ x. taken-begun s lane node x begin.free) (known-more p.game s u acts refl) fresh (inl (acts, Contains-push s.splits acts, part)) placed)
step-placed p peopled s placed (moves lane) t goes = subst (ArePlaced p.game) (sym goes.2) placed
step-placed p peopled s placed (ends lane) t goes =
    let u = with_lane s lane (Some (record { node = goes.0; ended = true })) in
    subst (ArePlaced p.game) (sym goes.2)
    (same-taken p.game s u (λ x. let e = held-ended s lane goes.0 x false true goes.1 in omega (arith, e)) (λ x k. k) placed)
step-placed p peopled s placed (works lane fact point) t goes =
    let w : Worked = record { fix = goes.0; fact = fact; point = point } in
    let u : Search = record (with_lane s lane None) { worked = s.worked ++ (w ∷ []) } in
    subst (ArePlaced p.game) (sym goes.2)
    (same-taken p.game s u (λ x. let e = held-let_go s lane goes.0 x true goes.1 in let f = worked-more s w x in omega (arith, e, f)) (λ x k. k) placed)
step-placed p peopled s placed (sticks lane cause) t goes =
    let w : Stuck = record { node = goes.0; cause = cause } in
    let u : Search = record (with_lane s lane None) { stuck = s.stuck ++ (w ∷ []) } in
    subst (ArePlaced p.game) (sym goes.2)
    (same-taken p.game s u (λ x. let e = held-let_go s lane goes.0 x true goes.1 in let f = stuck-more s w x in omega (arith, e, f)) (λ x k. k) placed)

-- a fact that each change keeps is kept by every list of changes
pub runs-keep : (p : Task) (K : Search → Type 0) → ((s : Search) → K s → (c : Change) (t : Search) → Goes p s c t → K t) → (cs : List Change) (s t : Search) → K s → Runs p s cs t → K t
runs-keep p K step [] s t k run = subst K run k
runs-keep p K step (c ∷ cs) s t k run = runs-keep p K step cs run.0 t (step s k c run.0 run.1) run.2

-- free lanes count for nothing
pub free-none : (q : Option Held → Bool) → q None ≡ false → (n : ℕ) → count_by q (replicate n None) ≡ 0
free-none q e zero = refl
free-none q e (suc n) = sum_by-cons (λ x. cond (q x) 1 0) None (replicate n None) ∙ ap (λ (b : Bool). one_if b + count_by q (replicate n None)) e ∙ (let r = free-none q e n in omega (arith, r))

pub start-placed : (p : Task) → ArePlaced p.game (first_search p)
start-placed p = record {
  once = λ x. let e = free-none (holds_node x) refl p.lanes in omega (arith, e);
  known = λ x h. let e = free-none (holds_node x) refl p.lanes in absurd (omega (arith, e, h));
}

pub known_in_one_place : KnownInOnePlace
known_in_one_place p peopled cs t run = runs-keep p (ArePlaced p.game) (step-placed p peopled) cs (first_search p) t (start-placed p) run
