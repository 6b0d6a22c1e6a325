-- The value and the upper bound of an accepted report are fractions of 128 bits.
use Rattle.std.proofs.Common.{◌≡◌, ℕ, zero, suc, ◌+◌, ◌*◌, ◌≤◌, ◌^◌, Bool, true, false, cond, List, [], ◌∷◌, ◌++◌, length, ℤ, pos, negsuc, ◌+ℤ◌, ◌-ℤ◌, ◌*ℤ◌, ◌≤ℤ◌, sym, ◌∙◌, ap, subst, refl, arith, Option, Some, None, slice_index_or}
use Rattle.std.specs.List.{All}
use Rattle.std.specs.Prelude.{IfSome, MatchBool, int_lt}
use Rattle.std.proofs.lemmas.Int.{ints}
use Rattle.std.proofs.lemmas.List.{length_push}
use Rattle.std.proofs.lemmas.List.Elements.{All-append, All-cons, All-contains, All-head, All-nil, All-tail}
use Rattle.sg_num.specs.Exact.{Fits}
use Rattle.sg_frac.specs.Fractions.{Fraction, IsReduced, IsReducedForm}
use Rattle.sg_frac.proofs.Lowered.{lowers}
use Rattle.sg_model.specs.declared.ticket.Ticket.{Ticket}
use Rattle.sg_model.specs.Sums.{greatest, numbers, numbers_from, total}
use Rattle.sg_model.specs.Games.{Game, action_count, attacker, prior_total}
use Rattle.sg_model.specs.Limits.{IsGame, IsPay, is_scaled}
use Rattle.sg_model.specs.Payoffs.{IsPeopled, greatest_of, payoffs_at, payoffs_of}
use Rattle.sg_model.specs.Commitments.{IsCommitment, IsValue, take_of, weight_total, worth}
use Rattle.sg_model.proofs.Best.{greatest-reached}
use Rattle.sg_model.proofs.Covers.{weight_total-positive}
use Rattle.sg_model.proofs.Ints.{v, n, times, less, same_by}
use Rattle.sg_model.proofs.Lists.{All-flat_map}
use Rattle.sg_model.proofs.Numbers.{All-numbers, length-numbers_from}
use Rattle.sg_model.proofs.Promises.{peopled}
use Rattle.sg_model.proofs.Spans.{Spans, pay-within, spans_product, spans_total}
use Rattle.sg_model.proofs.Values.{prior_total-positive}
use Rattle.sg_commit.proofs.Standing.{All-back, All-front}
use Rattle.sg_tree.specs.declared.fact.Fact.{Fact}
use Rattle.sg_tree.specs.declared.report.Cap.{Cap}
use Rattle.sg_tree.specs.declared.report.Report.{Report}
use Rattle.sg_cert.specs.Ranges.{IsFraction}
use Rattle.sg_bounds.specs.Regions.{prefix}
use Rattle.sg_bounds.specs.Facts.{HoldsFor, mu_of, rho_of}
use Rattle.sg_bounds.specs.Trees.{ArePartsOf, IsBase, IsTreeOf, Node, Parts, closed, end, node_of, part, split, unproved}
use Rattle.sg_bounds.specs.Leaves.{base_bound, fact_bound, leaf_bounds, listed, part_bounds, rest_of, root_bound, tree_bounds_of}
use Rattle.sg_bounds.specs.Sizes.{bound_sums, size_sums, value_sums, weight_sums, worth_sums, take_sums}
use Rattle.sg_bounds.specs.Accepted.{IsAccepted, IsGreatest, IsSplitTree, IsWaterTree, base_sums, cap_sums, fact_sums, part_sums, tree_sums}
use Rattle.sg_bounds.proofs.Caps.{holds-rho, one_le_product}
use Rattle.sg_programs.proofs.Sized.{few-types, pays-at, prior-spans}
use Rattle.sg_answer_laws.proofs.Fitting.{factor-below, fits-below}
use Rattle.sg_search.proofs.Fitting.{fits-between}

-- ---- lowest terms

-- a factor of what fits
factor-fits : (z x by : ℤ) → z ≡ x *ℤ by → pos 1 ≤ℤ by → Fits z → Fits x
factor-fits z (pos k) by e h fit = fits-below (pos k) z (omega (arith, ints)) (let le = factor-below (pos k) by (omega (arith, ints)) h in omega (arith, ints, le, e)) fit
factor-fits z (negsuc k) by e h fit =
    let le = factor-below (pos (suc k)) by (omega (arith, ints)) h in
    let below : negsuc k ≡ pos 0 -ℤ pos (suc k) = omega (arith, ints) in
    let turn : negsuc k *ℤ by ≡ pos 0 -ℤ (pos (suc k) *ℤ by) = ap (λ w. w *ℤ by) below ∙ same_by (times (less (n 0) (v (pos (suc k)))) (v by)) (less (n 0) (times (v (pos (suc k))) (v by))) (omega arith) in
    fits-between z (negsuc k) (pos 0) fit refl (omega (arith, ints, le, turn, e)) (omega (arith, ints))

-- a fraction with a denominator of at least 1 whose parts fit
pub record IsSmall (b : Fraction) : Type 0 where
  pub positive : pos 1 ≤ℤ b.den
  pub num : Fits b.num
  pub den : Fits b.den

-- its lowest terms are those of a report's text
lowered : (b f : Fraction) → IsSmall b → IsReducedForm b.num b.den f → IsFraction f
lowered b f small form =
    let l = lowers b.num b.den f small.positive form in
    record { num = factor-fits b.num f.num l.by l.num_is l.positive small.num; den = factor-fits b.den f.den l.by l.den_is l.positive small.den; reduced = form.reduced }

-- ---- the value

-- the worth of types one after another is the last of its sums
worth-last : (g : Game) (k : List Ticket) (z : ℤ) (l : ℕ) (ls : List ℕ) → All Fits (worth_sums g k z (l ∷ ls)) → Fits (z +ℤ total (λ l. (attacker g l).prior *ℤ take_of g k l) (l ∷ ls))
worth-last g k z l [] fit =
    let x : ℤ = (attacker g l).prior *ℤ take_of g k l in
    let rest = All-tail Fits x ((z +ℤ x) ∷ []) (All-back Fits (take_sums g k l) (x ∷ (z +ℤ x) ∷ []) fit) in
    let e : z +ℤ x ≡ z +ℤ (x +ℤ pos 0) = omega (arith, ints) in
    subst Fits e (All-head Fits (z +ℤ x) [] rest)
worth-last g k z l (m ∷ ms) fit =
    let x : ℤ = (attacker g l).prior *ℤ take_of g k l in
    let sums : List ℤ = worth_sums g k (z +ℤ x) (m ∷ ms) in
    let rest = All-tail Fits x ((z +ℤ x) ∷ sums) (All-back Fits (take_sums g k l) (x ∷ (z +ℤ x) ∷ sums) fit) in
    let t : ℤ = total (λ l. (attacker g l).prior *ℤ take_of g k l) (m ∷ ms) in
    let e : (z +ℤ x) +ℤ t ≡ z +ℤ (x +ℤ t) = omega (arith, ints) in
    subst Fits e (worth-last g k (z +ℤ x) m ms (All-tail Fits (z +ℤ x) sums rest))

worth-fits : (g : Game) (k : List Ticket) (m : ℕ) → 1 ≤ m → All Fits (worth_sums g k (pos 0) (numbers m)) → Fits (pos 0 +ℤ total (λ l. (attacker g l).prior *ℤ take_of g k l) (numbers m))
worth-fits g k zero low fit = absurd (omega (arith, low))
worth-fits g k (suc m) low fit = worth-last g k (pos 0) 1 (numbers_from 2 m) fit

-- the worth over the total times the priors
value-small : (g : Game) → IsPeopled g → (k : List Ticket) → IsCommitment g k → All Fits (value_sums g k) → IsSmall (record { num = worth g k; den = weight_total k *ℤ prior_total g })
value-small g is_peopled k is_k fit =
    let sums : List ℤ = worth_sums g k (pos 0) (numbers (length g.types)) in
    let last : ℤ = weight_total k *ℤ prior_total g in
    let w = weight_total-positive k is_k.some is_k.positive in
    let same : pos 0 +ℤ worth g k ≡ worth g k = omega (arith, ints) in
    record {
      positive = one_le_product (weight_total k) (prior_total g) w (prior_total-positive g is_peopled);
      num = subst Fits same (worth-fits g k (length g.types) is_peopled.types (All-front Fits sums (last ∷ []) fit));
      den = All-head Fits last [] (All-back Fits sums (last ∷ []) fit);
    }

-- the value of tickets in lowest terms
pub value-ranged : (g : Game) → IsPeopled g → (k : List Ticket) → IsCommitment g k → All Fits (value_sums g k) → (value : Fraction) → IsValue g k value.num value.den → IsReduced value → IsFraction value
value-ranged g is_peopled k is_k fit value is reduced =
    let equal : value.num *ℤ (weight_total k *ℤ prior_total g) ≡ worth g k *ℤ value.den =
    same_by (times (v value.num) (times (v (weight_total k)) (v (prior_total g)))) (times (times (v value.num) (v (weight_total k))) (v (prior_total g))) (omega arith) ∙ sym is.same in
    lowered (record { num = worth g k; den = weight_total k *ℤ prior_total g }) value (value-small g is_peopled k is_k fit) (record { reduced = reduced; equal = equal })

-- the priors fit, and so does the total
pub priors-fit : (g : Game) → IsPeopled g → (k : List Ticket) → IsCommitment g k → All Fits (value_sums g k) → Fits (prior_total g)
priors-fit g is_peopled k is_k fit =
    let w = weight_total-positive k is_k.some is_k.positive in
    let one = prior_total-positive g is_peopled in
    let le = factor-below (prior_total g) (weight_total k) (omega (arith, ints, one)) w in
    let turn = same_by (times (v (prior_total g)) (v (weight_total k))) (times (v (weight_total k)) (v (prior_total g))) (omega arith) in
    fits-below (prior_total g) (weight_total k *ℤ prior_total g) (omega (arith, ints, one)) (omega (arith, ints, le, turn)) (value-small g is_peopled k is_k fit).den

pub total-fits : (g : Game) → IsPeopled g → (k : List Ticket) → IsCommitment g k → All Fits (value_sums g k) → Fits (weight_total k)
total-fits g is_peopled k is_k fit =
    let w = weight_total-positive k is_k.some is_k.positive in
    let le = factor-below (weight_total k) (prior_total g) (omega (arith, ints, w)) (prior_total-positive g is_peopled) in
    fits-below (weight_total k) (weight_total k *ℤ prior_total g) (omega (arith, ints, w)) le (value-small g is_peopled k is_k fit).den

-- ---- the defender's payoffs

pub greatest-pay : (xs : List ℤ) → All IsPay xs → IsPay (greatest xs)
greatest-pay [] all = record { at_least = omega (arith, ints); at_most = omega (arith, ints) }
greatest-pay (x ∷ xs) all = All-contains IsPay (x ∷ xs) (greatest (x ∷ xs)) all (greatest-reached (x ∷ xs) (λ e. cc))

pub greatest_of-pay : (g : Game) → IsGame g → (l : ℕ) → IsPay (greatest_of g l)
greatest_of-pay g game l = greatest-pay (payoffs_of g l) (All-flat_map IsPay (payoffs_at g l) (numbers (action_count g l)) (λ i d lt. pays-at g game l (slice_index_or (numbers (action_count g l)) i d)))

root-fits : (g : Game) → IsGame g → Fits (root_bound g).num
root-fits g game =
    let few = few-types g game in
    let all : All (λ l. Spans (2 ^ 50) ((attacker g l).prior *ℤ greatest_of g l)) (numbers (length g.types)) =
    All-numbers (λ l. Spans (2 ^ 50) ((attacker g l).prior *ℤ greatest_of g l)) (length g.types)
    (λ l low high. spans_product (2 ^ 20) (2 ^ 30) (attacker g l).prior (greatest_of g l) (prior-spans g game l low high) (pay-within (greatest_of g l) (greatest_of-pay g game l))) in
    let s = spans_total (λ l. (attacker g l).prior *ℤ greatest_of g l) (2 ^ 50) (numbers (length g.types)) all in
    let room : length (numbers (length g.types)) * 2 ^ 50 ≤ 2 ^ 53 = room-for (length (numbers (length g.types))) (omega (arith, length-numbers_from 1 (length g.types), few)) in
    fits-between (pos 0 -ℤ pos (2 ^ 53)) (root_bound g).num (pos (2 ^ 53)) refl refl (omega (arith, ints, s.low, room)) (omega (arith, ints, s.high, room))
  where
    room-for : (m : ℕ) → m ≤ 8 → m * 2 ^ 50 ≤ 2 ^ 53
    room-for m le = omega (arith, le)

-- ---- bounds

fact-small : (g : Game) → IsPeopled g → (caps : List Cap) (m : ℕ) (f : Fact) → pos 1 ≤ℤ rho_of f → All Fits (bound_sums g caps m f) → IfSome (fact_bound g caps m f) IsSmall
fact-small g is_peopled caps m f one fit = by (int_lt (pos 0) (mu_of f)) fit
  where
    by : (b : Bool) → All Fits (cond b ((rho_of f *ℤ rest_of g caps m) ∷ (mu_of f +ℤ (rho_of f *ℤ rest_of g caps m)) ∷ (rho_of f *ℤ prior_total g) ∷ []) [])
        → IfSome (cond b (Some (record { num = mu_of f +ℤ (rho_of f *ℤ rest_of g caps m); den = rho_of f *ℤ prior_total g })) None) IsSmall
    by false fit = tt
    by true fit =
        let a : ℤ = rho_of f *ℤ rest_of g caps m in
        let b : ℤ = mu_of f +ℤ a in
        let c : ℤ = rho_of f *ℤ prior_total g in
        let later = All-tail Fits a (b ∷ c ∷ []) fit in
        record { positive = one_le_product (rho_of f) (prior_total g) one (prior_total-positive g is_peopled); num = All-head Fits b (c ∷ []) later; den = All-head Fits c [] (All-tail Fits b (c ∷ []) later) }

listed-small : (o : Option Fraction) → IfSome o IsSmall → All IsSmall (listed o)
listed-small None h = All-nil IsSmall
listed-small (Some b) h = All-cons IsSmall b [] h (All-nil IsSmall)

own-small : (g : Game) → IsPeopled g → (caps : List Cap) (m : ℕ) (acts : List ℕ) (f : Fact) → m ≡ length acts → HoldsFor g (prefix acts) f → All Fits (fact_sums g caps acts f) → IfSome (fact_bound g caps m f) IsSmall
own-small g is_peopled caps m acts f e holds fit =
    fact-small g is_peopled caps m f (holds-rho g (prefix acts) f holds)
    (subst (λ (x : ℕ). All Fits (bound_sums g caps x f)) (sym e) (All-back Fits (size_sums g (prefix acts) f) (bound_sums g caps (length acts) f) fit))

based-small : (g : Game) → IsPeopled g → (caps : List Cap) (m : ℕ) (over : Option Fraction) (acts : List ℕ) (base : Option Fact) → m ≡ length acts → IfSome over IsSmall → IsBase (HoldsFor g) (prefix acts) base
    → All Fits (base_sums g caps acts base) → IfSome (base_bound g caps m over base) IsSmall
based-small g is_peopled caps m over acts None e above is fit = above
based-small g is_peopled caps m over acts (Some f) e above is fit = own-small g is_peopled caps m acts f e is fit

mutual
  leaves-small : (g : Game) → IsPeopled g → (caps : List Cap) (m : ℕ) (over : Option Fraction) (acts : List ℕ) (t : Node) → m ≡ length acts → IfSome over IsSmall → IsTreeOf g (HoldsFor g) acts t → All Fits (tree_sums g caps acts t)
      → All IsSmall (leaf_bounds g caps m over t)
  leaves-small g is_peopled caps m over acts unproved e above is fit = listed-small over above
  leaves-small g is_peopled caps m over acts (closed f) e above is fit = listed-small (fact_bound g caps m f) (own-small g is_peopled caps m acts f e is fit)
  leaves-small g is_peopled caps m over acts (split l base parts) e above is fit =
      let own : List ℤ = base_sums g caps acts base in
      let below : List ℤ = part_sums g caps acts 1 parts in
      parts-small g is_peopled caps (m + 1) (base_bound g caps m over base) acts 1 parts (omega (arith, e)) (based-small g is_peopled caps m over acts base e above is.2 (All-front Fits own below fit)) is.4 (All-back Fits own below fit)

  parts-small : (g : Game) → IsPeopled g → (caps : List Cap) (m : ℕ) (over : Option Fraction) (acts : List ℕ) (a : ℕ) (ts : Parts) → m ≡ length acts + 1 → IfSome over IsSmall → ArePartsOf g (HoldsFor g) acts a ts
      → All Fits (part_sums g caps acts a ts) → All IsSmall (part_bounds g caps m over ts)
  parts-small g is_peopled caps m over acts a end e above is fit = All-nil IsSmall
  parts-small g is_peopled caps m over acts a (part t rest) e above is fit =
      let here : List ℤ = tree_sums g caps (acts ++ (a ∷ [])) t in
      let later : List ℤ = part_sums g caps acts (a + 1) rest in
      let one = length_push acts a in
      All-append IsSmall (leaf_bounds g caps m over t) (part_bounds g caps m over rest)
      (leaves-small g is_peopled caps m over (acts ++ (a ∷ [])) t (omega (arith, e, one)) above is.0 (All-front Fits here later fit))
      (parts-small g is_peopled caps m over acts (a + 1) rest e above is.1 (All-back Fits here later fit))

-- those of a tree
tree-small : (g : Game) → IsGame g → (caps : List Cap) (t : Node) → Fits (prior_total g) → IsSplitTree g t → All Fits (tree_sums g caps [] t) → All IsSmall (tree_bounds_of g caps t)
tree-small g game caps unproved priors is fit = absurd is.root
tree-small g game caps (closed f) priors is fit = absurd is.root
tree-small g game caps (split l base parts) priors is fit =
    leaves-small g (peopled g game) caps 0 (Some (root_bound g)) [] (split l base parts) refl (record { positive = prior_total-positive g (peopled g game); num = root-fits g game; den = priors }) is.tree_of fit

-- ---- the upper bound

-- the greatest of small fractions, in lowest terms
pub greatest-ranged : (b : Fraction) (bs : List Fraction) → All IsSmall bs → IsGreatest b bs → IsReduced b → IsFraction b
greatest-ranged b bs small is reduced =
    let x : Fraction = is.reached.0 in
    lowered x b (All-contains IsSmall bs x small is.reached.1) (record { reduced = reduced; equal = sym is.reached.2 })

-- the value and the upper bound of an accepted report, in a game without a scale
pub record HasFractions (r : Report) : Type 0 where
  pub value : IsFraction r.value
  pub upper : IsFraction r.upper

pub fractions-ranged : (g : Game) → IsGame g → is_scaled g ≡ false → (r : Report) → IsAccepted g r → HasFractions r
fractions-ranged g game unscaled r a =
    let is_peopled = peopled g game in
    let k = r.tickets.tickets in
    let tail : List ℤ = cap_sums g 2 r.caps ++ tree_sums g r.caps [] (node_of r.tree) in
    let later = All-back Fits (weight_sums k) (value_sums g k ++ tail) a.sums in
    let fit : All Fits (value_sums g k) = All-front Fits (value_sums g k) tail later in
    let tree_fit : All Fits (tree_sums g r.caps [] (node_of r.tree)) = All-back Fits (cap_sums g 2 r.caps) (tree_sums g r.caps [] (node_of r.tree)) (All-back Fits (value_sums g k) tail later) in
    let tree : IsSplitTree g (node_of r.tree) = subst (λ (b : Bool). MatchBool b (IsWaterTree g (node_of r.tree)) (IsSplitTree g (node_of r.tree))) unscaled a.tree in
    let value = value-ranged g is_peopled k a.tickets fit r.value a.value a.value_reduced in
    let bounds = tree-small g game r.caps (node_of r.tree) (priors-fit g is_peopled k a.tickets fit) tree tree_fit in
    let own : IsSmall r.value = record { positive = value.reduced.positive; num = value.num; den = value.den } in
    record { value = value; upper = greatest-ranged r.upper (r.value ∷ tree_bounds_of g r.caps (node_of r.tree)) (All-cons IsSmall r.value (tree_bounds_of g r.caps (node_of r.tree)) own bounds) a.upper a.upper_reduced }
