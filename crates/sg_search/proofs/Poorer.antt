-- Parts of all splits but the last are taken, or poor.
use Rattle.std.proofs.Common.{◌≡◌, ◌⊎◌, ℕ, zero, suc, ◌+◌, ◌-◌, ◌≤◌, nat_eq, Bool, true, false, cond, List, [], ◌∷◌, ◌++◌, map, length, fold, find, filter_map, count_by, option_map, option_and_then, ℤ, pos, ◌+ℤ◌, ◌*ℤ◌, ◌≤ℤ◌, int_lt, sym, ◌∙◌, ap, subst, refl, arith, Option, Some, None, inl, inr, ⊎_elim, Contains, All, IfSome}
use Rattle.std.proofs.lemmas.Int.{ints}
use Rattle.std.proofs.lemmas.Bool.{cases_Bool}
use Rattle.std.proofs.lemmas.List.{same_from_push, length_push}
use Rattle.std.proofs.lemmas.List.Sums.{fold_push, sum_by-cons}
use Rattle.std.proofs.lemmas.List.Elements.{All-nil, All-cons, All-head, All-tail, All-pop, Contains-append_left}
use Rattle.sg_model.specs.Sums.{numbers_from, greatest}
use Rattle.sg_model.specs.Games.{Game, action_count, prior_total}
use Rattle.sg_model.specs.Payoffs.{IsPeopled, greatest_of}
use Rattle.sg_model.specs.declared.ticket.Ticket.{Ticket}
use Rattle.sg_model.specs.Commitments.{IsCommitment, weight_total}
use Rattle.sg_model.proofs.Covers.{weight_total-positive}
use Rattle.sg_model.proofs.Values.{prior_total-positive}
use Rattle.sg_model.proofs.Ints.{v, times, le_by, le_from, mul-le, cancel-le}
use Rattle.sg_frac.specs.Fractions.{Fraction}
use Rattle.sg_commit.specs.Committed.{Committed}
use Rattle.sg_tree.specs.declared.fact.Fact.{Fact}
use Rattle.sg_tree.specs.declared.fix.Fix.{Fix}
use Rattle.sg_tree.specs.declared.report.Cap.{Cap}
use Rattle.sg_tree.specs.declared.worked.Worked.{Worked}
use Rattle.sg_bounds.specs.Regions.{alone, prefix}
use Rattle.sg_bounds.specs.Facts.{mu_of, rho_of}
use Rattle.sg_bounds.specs.Leaves.{fact_bound, rest_of}
use Rattle.sg_bounds.specs.Accepted.{IsNotAbove}
use Rattle.sg_bounds.proofs.Caps.{holds-rho, one_le_product}
use Rattle.sg_search.specs.declared.held.Stuck.{Stuck}
use Rattle.sg_search.specs.Searches.{Task, Search, same, first_search, taken_count, IsPartOf, Waits, ArePlaced}
use Rattle.sg_search.specs.Bounding.{better, cap_at, caps_of, fact_of, incumbent, inherited, exceeds, is_over, least_cap, own_bound, value_fraction}
use Rattle.sg_search.specs.Changes.{CapsAreDone, Change, Holds, takes, branches, moves, ends, works, sticks, Goes, with_lane, begun, first_part}
use Rattle.sg_search.specs.TreeLaws.{AreFacts}
use Rattle.sg_search.specs.GroupLaws.{ArePoints, IncumbentIsBest, TakenFromLastSplit}
use Rattle.sg_search.proofs.Placed.{one_if, same-is, same-self, held-ended, held-let_go, runs-keep, start-placed, step-placed, stuck-more, taken-begun, worked-more}
use Rattle.sg_search.proofs.Grown.{AreSplits, fact-holds, start-splits, step-splits}
use Rattle.sg_search.proofs.Levelled.{IsLevelled, step-levelled}

-- ---- the incumbent rises

pub positive-value : (g : Game) → IsPeopled g → (k : List Ticket) → IsCommitment g k → pos 1 ≤ℤ (value_fraction g k).den
positive-value g peopled k is = one_le_product (weight_total k) (prior_total g) (weight_total-positive k is.some is.positive) (prior_total-positive g peopled)

-- what isn't above a isn't above b, where b is above a
pub above-falls : (x a b : Fraction) → pos 1 ≤ℤ x.den → pos 1 ≤ℤ a.den → pos 1 ≤ℤ b.den → exceeds b a ≡ true → exceeds x a ≡ false → exceeds x b ≡ false
above-falls x a b px pa pb up no_more =
    let h : (x.num *ℤ a.den) ≤ℤ (a.num *ℤ x.den) = not-lt (a.num *ℤ x.den) (x.num *ℤ a.den) no_more in
    let k : (a.num *ℤ b.den) ≤ℤ (b.num *ℤ a.den) = lt-le (a.num *ℤ b.den) (b.num *ℤ a.den) up in
    let h2 = mul-le (x.num *ℤ a.den) (a.num *ℤ x.den) b.den h (omega (arith, ints, pb)) in
    let k2 = mul-le (a.num *ℤ b.den) (b.num *ℤ a.den) x.den k (omega (arith, ints, px)) in
    let r : ((x.num *ℤ b.den) *ℤ a.den) ≤ℤ ((b.num *ℤ x.den) *ℤ a.den) =
    le_by (times (times (v x.num) (v b.den)) (v a.den)) (times (times (v b.num) (v x.den)) (v a.den))
    (omega (
      arith,
      le_from (times (times (v x.num) (v a.den)) (v b.den)) (times (times (v a.num) (v x.den)) (v b.den)) h2,
      le_from (times (times (v a.num) (v b.den)) (v x.den)) (times (times (v b.num) (v a.den)) (v x.den)) k2,
    )) in
    le-not (b.num *ℤ x.den) (x.num *ℤ b.den) (cancel-le (x.num *ℤ b.den) (b.num *ℤ x.den) a.den r pa)
  where
    not-lt : (y z : ℤ) → int_lt y z ≡ false → z ≤ℤ y
    not-lt y z e = omega (arith, ints, e)

    lt-le : (y z : ℤ) → int_lt y z ≡ true → y ≤ℤ z
    lt-le y z e = omega (arith, ints, e)

    le-not : (y z : ℤ) → z ≤ℤ y → int_lt y z ≡ false
    le-not y z e = ⊎_elim (λ yes. absurd (omega (arith, ints, yes, e))) (λ h. h) (cases_Bool (int_lt y z))

better-keeps : (g : Game) (best : List Ticket) (o : Option Committed) → IsCommitment g best → IfSome o (λ k. IsCommitment g k.tickets) → IsCommitment g (better g best o)
better-keeps g best None is point = is
better-keeps g best (Some k) is point = by (exceeds (value_fraction g k.tickets) (value_fraction g best))
  where
    by : (b : Bool) → IsCommitment g (cond b k.tickets best)
    by true = point
    by false = is

incumbent-is : (g : Game) (ws : List Worked) (best : List Ticket) → IsCommitment g best → All (λ (w : Worked). IfSome w.point (λ k. IsCommitment g k.tickets)) ws
    → IsCommitment g (fold (λ b (w : Worked). better g b w.point) best ws)
incumbent-is g [] best is points = is
incumbent-is g (w ∷ ws) best is points =
    incumbent-is g ws (better g best w.point) (better-keeps g best w.point is (All-head (λ (w : Worked). IfSome w.point (λ k. IsCommitment g k.tickets)) w ws points))
    (All-tail (λ (w : Worked). IfSome w.point (λ k. IsCommitment g k.tickets)) w ws points)

-- what isn't above the best isn't above a better one
better-over : (g : Game) → IsPeopled g → (best : List Ticket) (o : Option Committed) → IsCommitment g best → IfSome o (λ k. IsCommitment g k.tickets) → (x : Fraction) → pos 1 ≤ℤ x.den
    → exceeds x (value_fraction g best) ≡ false → exceeds x (value_fraction g (better g best o)) ≡ false
better-over g peopled best None is point x px low = low
better-over g peopled best (Some k) is point x px low = by (exceeds (value_fraction g k.tickets) (value_fraction g best)) refl
  where
    by : (b : Bool) → exceeds (value_fraction g k.tickets) (value_fraction g best) ≡ b → exceeds x (value_fraction g (cond b k.tickets best)) ≡ false
    by true e = above-falls x (value_fraction g best) (value_fraction g k.tickets) px (positive-value g peopled best is) (positive-value g peopled k.tickets point) e low
    by false e = low

-- ---- facts and caps stay

pub fact-more : (ws : List Worked) (w : Worked) (x : Fix) → (1 ≤ count_by (λ (u : Worked). same x u.fix) ws) ⊎ (same x w.fix ≡ false) → fact_of (ws ++ (w ∷ [])) x ≡ fact_of ws x
fact-more [] w x (inl h) = absurd (omega (arith, h))
fact-more [] w x (inr h) = ap (λ (b : Bool). option_map (λ (u : Worked). u.fact) (cond b (Some w) None)) h
fact-more (u ∷ ws) w x h = ⊎_elim
    (λ yes.
    ap (λ (b : Bool). option_map (λ (y : Worked). y.fact) (cond b (Some u) (find (λ (y : Worked). same x y.fix) (ws ++ (w ∷ []))))) yes
    ∙ sym (ap (λ (b : Bool). option_map (λ (y : Worked). y.fact) (cond b (Some u) (find (λ (y : Worked). same x y.fix) ws))) yes))
    (λ out.
    let c = sum_by-cons (λ (y : Worked). cond (same x y.fix) 1 0) u ws in
    let z : one_if (same x u.fix) ≡ 0 = ap one_if out in
    ap (λ (b : Bool). option_map (λ (y : Worked). y.fact) (cond b (Some u) (find (λ (y : Worked). same x y.fix) (ws ++ (w ∷ []))))) out
    ∙ fact-more ws w x (⊎_elim (λ m. inl (omega (arith, m, c, z))) (λ d. inr d) h)
    ∙ sym (ap (λ (b : Bool). option_map (λ (y : Worked). y.fact) (cond b (Some u) (find (λ (y : Worked). same x y.fix) ws))) out))
    (cases_Bool (same x u.fix))

pub map-from : {X : Type 0} (f h : ℕ → X) (b k : ℕ) → ((l : ℕ) → b ≤ l → f l ≡ h l) → map f (numbers_from b k) ≡ map h (numbers_from b k)
map-from f h b zero each = refl
map-from f h b (suc k) each = rw (each b (omega arith), map-from f h (b + 1) k (λ l low. each l (omega (arith, low)))) refl

pub kept-same : (f h : ℕ → Option Fact) (b k : ℕ) → ((a : ℕ) → f a ≡ h a) → filter_map f (numbers_from b k) ≡ filter_map h (numbers_from b k)
kept-same f h b zero each = refl
kept-same f h b (suc k) each = rw (each b, kept-same f h (b + 1) k each) refl

abbrev cap_by : Game → ℕ → List Fact → Cap
cap_by g l fs =
    cond (nat_eq (length fs) (action_count g l)) (record { l = l; v = greatest (filter_map (least_cap g l) fs); proof = fs }) (record { l = l; v = greatest_of g l; proof = [] })

pub caps-same : (g : Game) (s t : Search) → ((l a : ℕ) → 2 ≤ l → fact_of t.worked (alone l a) ≡ fact_of s.worked (alone l a)) → caps_of g t ≡ caps_of g s
caps-same g s t each = map-from (cap_at g t) (cap_at g s) 2 (length g.types - 1)
    (λ l low. ap (cap_by g l) (kept-same (λ a. fact_of t.worked (alone l a)) (λ a. fact_of s.worked (alone l a)) 1 (action_count g l) (λ a. each l a low)))

-- ---- bounds stay

some-one : {X : Type 0} {a b : X} → Some a ≡ Some b → a ≡ b
some-one h = cc

none-some : {X : Type 0} {a : X} → None ≡ Some a → ⊥
none-some h = cc

pub bound-positive : (g : Game) → IsPeopled g → (caps : List Cap) (k : ℕ) (f : Fact) → pos 1 ≤ℤ rho_of f → (b : Fraction) → fact_bound g caps k f ≡ Some b → pos 1 ≤ℤ b.den
bound-positive g peopled caps k f rho b = by (int_lt (pos 0) (mu_of f))
  where
    by : (t : Bool) → cond t (Some (record { num = mu_of f +ℤ (rho_of f *ℤ rest_of g caps k); den = rho_of f *ℤ prior_total g })) None ≡ Some b → pos 1 ≤ℤ b.den
    by true e = subst (λ (x : Fraction). pos 1 ≤ℤ x.den) (some-one e) (one_le_product (rho_of f) (prior_total g) rho (prior_total-positive g peopled))
    by false e = absurd (none-some e)

pub inherited-positive : (g : Game) → IsPeopled g → (s : Search) → AreFacts g s → (acts : List ℕ) (b : Fraction) → inherited g s acts ≡ Some b → pos 1 ≤ℤ b.den
inherited-positive g peopled s facts [] b e = subst (λ (x : Fraction). pos 1 ≤ℤ x.den) (some-one e) (prior_total-positive g peopled)
inherited-positive g peopled s facts (a ∷ acts) b given = by (fact_of s.worked (prefix (a ∷ acts))) refl given
  where
    by : (o : Option Fact) → fact_of s.worked (prefix (a ∷ acts)) ≡ o → option_and_then (fact_bound g (caps_of g s) (length (a ∷ acts))) o ≡ Some b → pos 1 ≤ℤ b.den
    by None q e = absurd (none-some e)
    by (Some f) q e = bound-positive g peopled (caps_of g s) (length (a ∷ acts)) f (holds-rho g (prefix (a ∷ acts)) f (fact-holds g s.worked facts (prefix (a ∷ acts)) f q)) b e

-- a further worked node, that serves no cap, leaves the bound of a split's parts
pub inherited-same : (p : Task) (s t : Search) (w : Worked) → t.worked ≡ s.worked ++ (w ∷ []) → AreSplits p s → ((l a : ℕ) → 2 ≤ l → same (alone l a) w.fix ≡ false)
    → (acts : List ℕ) → Contains s.splits acts → inherited p.game t acts ≡ inherited p.game s acts
inherited-same p s t w e ok other [] at = refl
inherited-same p s t w e ok other (a ∷ acts) at =
    let g = p.game in
    let fix = prefix (a ∷ acts) in
    let caps = caps-same g s t (λ l b low. ap (λ (ws : List Worked). fact_of ws (alone l b)) e ∙ fact-more s.worked w (alone l b) (inr (other l b low))) in
    let fact : fact_of t.worked fix ≡ fact_of s.worked fix = ap (λ (ws : List Worked). fact_of ws fix) e ∙ fact-more s.worked w fix (⊎_elim (λ none. absurd (let l : length (a ∷ acts) ≡ 0 = ap length none in omega (arith, l))) (λ h. inl h) (ok.worked (a ∷ acts) at)) in
    ap (λ (cs : List Cap). option_and_then (fact_bound g cs (length (a ∷ acts))) (fact_of t.worked fix)) caps
    ∙ ap (λ (o : Option Fact). option_and_then (fact_bound g (caps_of g s) (length (a ∷ acts))) o) fact

-- ---- what every change keeps

abbrev IsPoor : Task → Search → Type 0
IsPoor p s = (front : List (List ℕ)) (last : List ℕ) → s.splits ≡ front ++ (last ∷ []) → (acts : List ℕ) (node : Fix) → Contains front acts → IsPartOf p.game acts node → Waits p.game s node
    → is_over p s (inherited p.game s acts) ≡ false

record IsDeep (p : Task) (s : Search) : Type 0 where
  placed : ArePlaced p.game s
  splits : AreSplits p s
  levelled : IsLevelled p s
  poor : AreFacts p.game s → ArePoints p s → IsPoor p s

-- a node that a lane holds is no cap node where these are done
pub held-no_cap : (p : Task) (s : Search) → ArePlaced p.game s → CapsAreDone p.game s → (lane : ℕ) (node : Fix) (b : Bool) → Holds s lane node b → (l a : ℕ) → 2 ≤ l → same (alone l a) node ≡ false
held-no_cap p s placed done lane node b holds l a low = ⊎_elim
    (λ yes.
    let is : alone l a ≡ node = same-is (alone l a) node yes in
    let e = held-let_go s lane node node b holds in
    let one : one_if (same node node) ≡ 1 = ap one_if (same-self node) in
    let most = placed.once node in
    absurd (⊎_elim
    (λ below. let of = below.2 in let q : l ≡ 1 = ap (λ (x : Fix). x.first) (is ∙ of.node_is) in omega (arith, q, low))
    (λ lone. let d = done node lone in omega (arith, d, e, one, most))
    (placed.known node (omega (arith, e, one)))))
    (λ out. out)
    (cases_Bool (same (alone l a) node))

not-over : (p : Task) → IsPeopled p.game → (s t : Search) (w : Worked) → t.worked ≡ s.worked ++ (w ∷ []) → ArePoints p s → IfSome w.point (λ k. IsCommitment p.game k.tickets)
    → (o : Option Fraction) → ((b : Fraction) → o ≡ Some b → pos 1 ≤ℤ b.den) → is_over p s o ≡ false → is_over p t o ≡ false
not-over p peopled s t w e points point None px low = refl
not-over p peopled s t w e points point (Some b) px low =
    let g = p.game in
    let best : incumbent p t ≡ better g (incumbent p s) w.point =
    ap (λ (ws : List Worked). fold (λ k (u : Worked). better g k u.point) p.first ws) e ∙ fold_push (λ k (u : Worked). better g k u.point) p.first s.worked w in
    ap (λ (k : List Ticket). exceeds b (value_fraction g k)) best
    ∙ better-over g peopled (incumbent p s) w.point (incumbent-is g s.worked p.first points.first points.points) point b (px b refl) low

-- with the same splits and worked nodes, and no node taken less often
poor-same : (p : Task) (s t : Search) → t.splits ≡ s.splits → t.worked ≡ s.worked → ((x : Fix) → taken_count s x ≤ taken_count t x) → (AreFacts p.game s → ArePoints p s → IsPoor p s) → AreFacts p.game t → ArePoints p t → IsPoor p t
poor-same p s t e f more poor facts points front last is acts node at below waits =
    let fewer = more node in
    let fresh = waits.1 in
    let g = p.game in
    let all : AreFacts g s = subst (λ (ws : List Worked). All (λ (w : Worked). Rattle.sg_bounds.specs.Facts.HoldsFor g w.fix w.fact) ws) f facts in
    let pts : ArePoints p s = record { first = points.first; points = subst (λ (ws : List Worked). All (λ (w : Worked). IfSome w.point (λ k. IsCommitment g k.tickets)) ws) f points.points } in
    let in_s : Contains s.splits acts = subst (λ (l : List (List ℕ)). Contains l acts) (sym is ∙ e) (Contains-append_left front (last ∷ []) acts at) in
    let low = poor all pts front last (sym e ∙ is) acts node at below (inl (acts, in_s, below), omega (arith, fewer, fresh)) in
    let q : inherited g t acts ≡ inherited g s acts = inherited-by g s t f acts in
    subst (λ (ws : List Worked). is_over-by p ws (inherited g t acts) ≡ false) (sym f) (ap (is_over-by p s.worked) q ∙ low)
  where
    is_over-by : Task → List Worked → Option Fraction → Bool
    is_over-by p2 ws o = is_over p2 (record { lanes = []; splits = []; worked = ws; stuck = [] }) o

    inherited-by : (g : Game) (s2 t2 : Search) → t2.worked ≡ s2.worked → (as1 : List ℕ) → inherited g t2 as1 ≡ inherited g s2 as1
    inherited-by g s2 t2 h [] = refl
    inherited-by g s2 t2 h (a ∷ as1) = ap (λ (ws : List Worked). own_bound g (record { lanes = []; splits = []; worked = ws; stuck = [] }) (a ∷ as1)) h

step-poor : (p : Task) → IsPeopled p.game → (s : Search) → IsDeep p s → (c : Change) (t : Search) → Goes p s c t → AreFacts p.game t → ArePoints p t → IsPoor p t
step-poor p peopled s deep (takes lane node) t go =
    subst (λ (u : Search). AreFacts p.game u → ArePoints p u → IsPoor p u) (sym go.2)
    (poor-same p s (with_lane s lane (begun node)) refl refl (λ x. let b = go.0 in let e = taken-begun s lane node x b.free in omega (arith, e)) deep.poor)
step-poor p peopled s deep (branches lane acts0) t go =
    let u : Search = record (with_lane s lane (begun (first_part acts0))) { splits = s.splits ++ (acts0 ∷ []) } in
    let b = go.0 in
    subst (λ (u : Search). AreFacts p.game u → ArePoints p u → IsPoor p u) (sym go.4)
    (λ facts points front last is acts node at below waits.
    let whole : s.splits ≡ front = (same_from_push s.splits front acts0 last is).0 in
    let in_s : Contains s.splits acts = subst (λ (l : List (List ℕ)). Contains l acts) (sym whole) at in
    let e = taken-begun s lane (first_part acts0) node b.free in
    let fresh = waits.1 in
    ⊎_elim
    (λ over. absurd (go.1 node (record { waits = (inl (acts, in_s, below), omega (arith, e, fresh)); worth = inl (acts, below, over) })))
    (λ low. low)
    (cases_Bool (is_over p s (inherited p.game s acts))))
step-poor p peopled s deep (moves lane) t go = subst (λ (u : Search). AreFacts p.game u → ArePoints p u → IsPoor p u) (sym go.2) deep.poor
step-poor p peopled s deep (ends lane) t go =
    subst (λ (u : Search). AreFacts p.game u → ArePoints p u → IsPoor p u) (sym go.2)
    (poor-same p s (with_lane s lane (Some (record { node = go.0; ended = true }))) refl refl (λ x. let e = held-ended s lane go.0 x false true go.1 in omega (arith, e)) deep.poor)
step-poor p peopled s deep (works lane fact point) t go =
    let g = p.game in
    let w : Worked = record { fix = go.0; fact = fact; point = point } in
    let u : Search = record (with_lane s lane None) { worked = s.worked ++ (w ∷ []) } in
    subst (λ (u : Search). AreFacts g u → ArePoints p u → IsPoor p u) (sym go.2)
    (λ facts points front last is acts node at below waits.
    let of = All-pop (λ (y : Worked). Rattle.sg_bounds.specs.Facts.HoldsFor g y.fix y.fact) (s.worked ++ (w ∷ [])) s.worked (Some w) refl facts in
    let with_points = All-pop (λ (y : Worked). IfSome y.point (λ k. IsCommitment g k.tickets)) (s.worked ++ (w ∷ [])) s.worked (Some w) refl points.points in
    let pts : ArePoints p s = record { first = points.first; points = with_points.0 } in
    let in_s : Contains s.splits acts = subst (λ (l : List (List ℕ)). Contains l acts) (sym is) (Contains-append_left front (last ∷ []) acts at) in
    let e = held-let_go s lane go.0 node true go.1 in
    let f = worked-more s w node in
    let fresh = waits.1 in
    let low = deep.poor of.0 pts front last is acts node at below (inl (acts, in_s, below), omega (arith, e, f, fresh)) in
    let done : CapsAreDone g s = ⊎_elim
    (λ one.
    let root : List ℕ = [] in
    let l : length (root ∷ []) ≡ length (front ++ (last ∷ [])) = ap length (sym one ∙ is) in
    let m = length_push front last in
    let lt = at.1 in
    absurd (omega (arith, l, m, lt)))
    (λ d. d)
    deep.levelled in
    let q : inherited g u acts ≡ inherited g s acts = inherited-same p s u w refl deep.splits (λ l a two. held-no_cap p s deep.placed done lane go.0 true go.1 l a two) acts in_s in
    ap (is_over p u) q ∙ not-over p peopled s u w refl pts with_points.1 (inherited g s acts) (inherited-positive g peopled s of.0 acts) low)
step-poor p peopled s deep (sticks lane cause) t go =
    let x0 : Stuck = record { node = go.0; cause = cause } in
    let u : Search = record (with_lane s lane None) { stuck = s.stuck ++ (x0 ∷ []) } in
    subst (λ (u : Search). AreFacts p.game u → ArePoints p u → IsPoor p u) (sym go.2)
    (poor-same p s u refl refl (λ x. let e = held-let_go s lane go.0 x true go.1 in let f = stuck-more s x0 x in omega (arith, e, f)) deep.poor)

step-deep : (p : Task) → IsPeopled p.game → (s : Search) → IsDeep p s → (c : Change) (t : Search) → Goes p s c t → IsDeep p t
step-deep p peopled s deep c t goes = record {
  placed = step-placed p peopled s deep.placed c t goes;
  splits = step-splits p s deep.splits c t goes;
  levelled = step-levelled p s deep.levelled c t goes;
  poor = step-poor p peopled s deep c t goes;
}

start-deep : (p : Task) → IsPeopled p.game → IsDeep p (first_search p)
start-deep p peopled = record {
  placed = start-placed p;
  splits = start-splits p peopled;
  levelled = inl refl;
  poor = λ facts points front last is acts node at below waits.
      let root : List ℕ = [] in
      let l : length (root ∷ []) ≡ length (front ++ (last ∷ [])) = ap length is in
      let m = length_push front last in
      let lt = at.1 in
      absurd (omega (arith, l, m, lt));
}

pub taken_from_last_split : TakenFromLastSplit
taken_from_last_split p peopled cs t run facts points = (runs-keep p (IsDeep p) (step-deep p peopled) cs (first_search p) t (start-deep p peopled) run).poor facts points

-- ---- the incumbent is the best

pub below-from : (x y : Fraction) → exceeds x y ≡ false → IsNotAbove x y
below-from x y e = not-lt (y.num *ℤ x.den) (x.num *ℤ y.den) e
  where
    not-lt : (a b : ℤ) → int_lt a b ≡ false → b ≤ℤ a
    not-lt a b h = omega (arith, ints, h)

not-above-self : (x : Fraction) → exceeds x x ≡ false
not-above-self x = by (x.num *ℤ x.den)
  where
    by : (z : ℤ) → int_lt z z ≡ false
    by z = ⊎_elim (λ yes. absurd (omega (arith, ints, yes))) (λ h. h) (cases_Bool (int_lt z z))

-- what isn't above the best so far isn't above the best of all
stays-low : (g : Game) → IsPeopled g → (ws : List Worked) (best : List Ticket) → IsCommitment g best → All (λ (w : Worked). IfSome w.point (λ k. IsCommitment g k.tickets)) ws
    → (x : Fraction) → pos 1 ≤ℤ x.den → exceeds x (value_fraction g best) ≡ false → exceeds x (value_fraction g (fold (λ b (w : Worked). better g b w.point) best ws)) ≡ false
stays-low g peopled [] best is points x px low = low
stays-low g peopled (w ∷ ws) best is points x px low =
    let Q : Worked → Type 0 = λ (u : Worked). IfSome u.point (λ k. IsCommitment g k.tickets) in
    let first = All-head Q w ws points in
    stays-low g peopled ws (better g best w.point) (better-keeps g best w.point is first) (All-tail Q w ws points) x px (better-over g peopled best w.point is first x px low)

point-low : (g : Game) (best : List Ticket) (k : Committed) → exceeds (value_fraction g k.tickets) (value_fraction g (better g best (Some k))) ≡ false
point-low g best k = by (exceeds (value_fraction g k.tickets) (value_fraction g best)) refl
  where
    by : (b : Bool) → exceeds (value_fraction g k.tickets) (value_fraction g best) ≡ b → exceeds (value_fraction g k.tickets) (value_fraction g (cond b k.tickets best)) ≡ false
    by true e = not-above-self (value_fraction g k.tickets)
    by false e = e

points-low : (g : Game) → IsPeopled g → (ws : List Worked) (best : List Ticket) → IsCommitment g best → All (λ (w : Worked). IfSome w.point (λ k. IsCommitment g k.tickets)) ws
    → All (λ (w : Worked). IfSome w.point (λ k. IsNotAbove (value_fraction g k.tickets) (value_fraction g (fold (λ b (u : Worked). better g b u.point) best ws)))) ws
points-low g peopled [] best is points = All-nil (λ (w : Worked). IfSome w.point (λ k. IsNotAbove (value_fraction g k.tickets) (value_fraction g best)))
points-low g peopled (w ∷ ws) best is points =
    let first = All-head (λ (u : Worked). IfSome u.point (λ k. IsCommitment g k.tickets)) w ws points in
    let others = All-tail (λ (u : Worked). IfSome u.point (λ k. IsCommitment g k.tickets)) w ws points in
    let next = better-keeps g best w.point is first in
    All-cons (λ (u : Worked). IfSome u.point (λ k. IsNotAbove (value_fraction g k.tickets) (value_fraction g (fold (λ b (y : Worked). better g b y.point) (better g best w.point) ws)))) w ws
    (by w.point first (stays-low g peopled ws (better g best w.point) next others))
    (points-low g peopled ws (better g best w.point) next others)
  where
    by : (o : Option Committed) → IfSome o (λ k. IsCommitment g k.tickets)
        → ((x : Fraction) → pos 1 ≤ℤ x.den → exceeds x (value_fraction g (better g best o)) ≡ false → exceeds x (value_fraction g (fold (λ b (y : Worked). better g b y.point) (better g best o) ws)) ≡ false)
        → IfSome o (λ k. IsNotAbove (value_fraction g k.tickets) (value_fraction g (fold (λ b (y : Worked). better g b y.point) (better g best o) ws)))
    by None point stays = tt
    by (Some k) point stays = below-from (value_fraction g k.tickets) _ (stays (value_fraction g k.tickets) (positive-value g peopled k.tickets point) (point-low g best k))

pub incumbent_is_best : IncumbentIsBest
incumbent_is_best p peopled s points =
    let g = p.game in (
      below-from (value_fraction g p.first) (value_fraction g (incumbent p s)) (stays-low g peopled s.worked p.first points.first points.points (value_fraction g p.first) (positive-value g peopled p.first points.first) (not-above-self (value_fraction g p.first))),
      points-low g peopled s.worked p.first points.first points.points,
    )
