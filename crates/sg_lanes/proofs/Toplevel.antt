-- The prefixes of one action that may be split.
use Rattle.std.proofs.Common.{◌≡◌, ◌≢◌, ◌⊎◌, ◌↔◌, ℕ, zero, suc, ◌+◌, ◌-◌, ◌≤◌, ◌<◌, Bool, true, false, true≢false, List, [], ◌∷◌, ◌++◌, map, length, get_or, set, sym, ◌∙◌, ap, subst, refl, arith, Option, Some, None, inl, inr, ⊎_elim, Contains, All, ℤ, pos, ◌≤ℤ◌}
use Rattle.std.proofs.lemmas.List.{length-map, map-append}
use Rattle.std.proofs.lemmas.List.Elements.{Contains-append_cases, Contains-append_left, Contains-append_right}
use Rattle.sg_model.specs.Sums.{numbers_from}
use Rattle.sg_model.specs.Games.{Game}
use Rattle.sg_model.specs.Commitments.{IsCommitment}
use Rattle.sg_model.specs.Payoffs.{IsPeopled}
use Rattle.sg_model.specs.declared.ticket.Ticket.{Ticket}
use Rattle.sg_model.proofs.Numbers.{length-numbers_from}
use Rattle.sg_num.specs.Exact.{Fits}
use Rattle.sg_frac.specs.Fractions.{Fraction}
use Rattle.sg_commit.proofs.Standing.{All-back}
use Rattle.sg_tree.specs.declared.fact.Fact.{Fact}
use Rattle.sg_tree.specs.declared.fix.Fix.{Fix}
use Rattle.sg_tree.specs.declared.report.Cap.{Cap}
use Rattle.sg_bounds.specs.Regions.{alone, prefix}
use Rattle.sg_bounds.specs.Facts.{rho_of}
use Rattle.sg_bounds.specs.Sizes.{bound_sums, size_sums}
use Rattle.sg_bounds.proofs.Caps.{holds-rho}
use Rattle.sg_search.specs.Searches.{Search}
use Rattle.sg_search.specs.Bounding.{cap_at, caps_of, fact_of}
use Rattle.sg_search.specs.Events.{comes_first}
use Rattle.sg_search.specs.Results.{IsResult}
use Rattle.sg_search.proofs.Chosen.{InOrder}
use Rattle.sg_search.proofs.Fitting.{fact-fits}
use Rattle.sg_search.proofs.Listing.{here-in, either-in, keyed-in, none-in, order-append, order-cons, order-nil}
use Rattle.sg_search.proofs.Ranges.{fact-source}
use Rattle.sg_lanes.specs.declared.ripe.Ripe.{Ripe}
use Rattle.sg_lanes.specs.Choices.{ripe_nodes}
use Rattle.sg_lanes.specs.Ripenings.{AreTopEntries, IsTopEntry}
use Rattle.sg_lanes.proofs.Sifted.{part-first}

-- ---- what the bound of a worked prefix asks for

pub caps-count : (g : Game) → IsPeopled g → (s : Search) → length (caps_of g s) + 1 ≡ length g.types
caps-count g peopled s =
    let a = length-map (numbers_from 2 (length g.types - 1)) (cap_at g s) in
    let b = length-numbers_from 2 (length g.types - 1) in
    let c = peopled.types in
    omega (arith, a, b, c)

module _ (g : Game) (peopled : IsPeopled g) (s : Search) (results : All (IsResult g) s.worked) (first : List Ticket) (is_first : IsCommitment g first) where
  pub top-rho : (a : ℕ) (f : Fact) → fact_of s.worked (alone 1 a) ≡ Some f → pos 1 ≤ℤ rho_of f
  top-rho a f e =
      let src = fact-source (IsResult g) s.worked results (alone 1 a) f e in
      subst (λ (y : Fact). pos 1 ≤ℤ rho_of y) src.fact (holds-rho g src.of.fix src.of.fact src.holds.fact)

  pub top-fits : (a : ℕ) (f : Fact) → fact_of s.worked (alone 1 a) ≡ Some f → All Fits (bound_sums g (caps_of g s) 1 f)
  top-fits a f e = All-back Fits (size_sums g (prefix (a ∷ [])) f) (bound_sums g (caps_of g s) 1 f) (fact-fits g peopled s results first is_first (a ∷ []) f e)

-- what is put back
pub set-back : (xs : List Cap) (i : ℕ) (a b d : Cap) → b ≡ get_or xs i d → set (set xs i a) i b ≡ xs
set-back [] i a b d e = refl
set-back (x ∷ xs) zero a b d e = ap (λ (c : Cap). c ∷ xs) e
set-back (x ∷ xs) (suc i) a b d e = ap (λ (cs : List Cap). x ∷ cs) (set-back xs i a b d e)

-- ---- one action after another

module _ (g : Game) (s : Search) (value : Fraction) where
  pub tops-start : AreTopEntries g s value 0 []
  tops-start = record {
    in_order = order-nil;
    each = λ r at. absurd (none-in at);
    all = λ a low high. absurd (omega (arith, low, high));
  }

  either-top : (n a : ℕ) → a ≤ n + 1 → (a ≤ n) ⊎ (a ≡ n + 1)
  either-top n a le = by (a - n) refl
    where
      by : (k : ℕ) → a - n ≡ k → (a ≤ n) ⊎ (a ≡ n + 1)
      by zero e = inl (omega (arith, e))
      by (suc k) e = inr (omega (arith, e, le))

  pub tops-none : (n : ℕ) (rs : List Ripe) → AreTopEntries g s value n rs → IsTopEntry g s value (n + 1) None → AreTopEntries g s value (n + 1) rs
  tops-none n rs h out = record {
    in_order = h.in_order;
    each = λ r at. let k = h.each r at in let le = k.2 in (k.0, k.1, omega (arith, le), k.3);
    all = λ a low high. ⊎_elim (λ le. h.all a low le) (λ e. inl (subst (λ (b : ℕ). IsTopEntry g s value b None) (sym e) out)) (either-top n a high);
  }

  pub tops-more : (n : ℕ) (rs : List Ripe) (e : Ripe) → AreTopEntries g s value n rs → IsTopEntry g s value (n + 1) (Some e) → AreTopEntries g s value (n + 1) (rs ++ (e ∷ []))
  tops-more n rs e h one = record {
    in_order = subst InOrder (sym (map-append (λ (r : Ripe). r.node) rs (e ∷ [])))
        (order-append (ripe_nodes rs) (e.node ∷ []) h.in_order (order-cons e.node [] (λ y at. absurd (none-in at)) order-nil) cross);
    each = λ r at. ⊎_elim
        (λ old. let k = h.each r old in let le = k.2 in (k.0, k.1, omega (arith, le), k.3))
        (λ new. (n + 1, omega arith, omega arith, subst (λ (x : Ripe). IsTopEntry g s value (n + 1) (Some x)) (last-is r new) one))
        (Contains-append_cases rs (e ∷ []) r at);
    all = λ a low high. ⊎_elim
        (λ le. ⊎_elim (λ out. inl out) (λ k. inr (k.0, Contains-append_left rs (e ∷ []) k.0 k.1, k.2)) (h.all a low le))
        (λ is. inr (e, Contains-append_right rs (e ∷ []) e (here-in e []), subst (λ (b : ℕ). IsTopEntry g s value b (Some e)) (sym is) one))
        (either-top n a high);
  }
    where
      last-is : (r : Ripe) → Contains (e ∷ []) r → e ≡ r
      last-is r at = ⊎_elim (λ q. q) (λ q. absurd (none-in q)) (either-in e [] r at)

      cross : (a b : Fix) → Contains (ripe_nodes rs) a → Contains (e.node ∷ []) b → comes_first a b ≡ true
      cross a b at last =
          let r = keyed-in (λ (r : Ripe). r.node) rs a at in
          let k = h.each r.0 r.1 in
          let le = k.2 in
          let first : comes_first (prefix (k.0 ∷ [])) (prefix ((n + 1) ∷ [])) ≡ true = part-first [] k.0 (n + 1) (omega (arith, le)) in
          let is_b : e.node ≡ b = ⊎_elim (λ q. q) (λ q. absurd (none-in q)) (either-in e.node [] b last) in
          subst (λ (x : Fix). comes_first x b ≡ true) (sym k.3.0 ∙ r.2) (subst (λ (y : Fix). comes_first (prefix (k.0 ∷ [])) y ≡ true) (sym one.0 ∙ is_b) first)
