-- The facts that a search states are those of worked nodes, all but some of the types whose cap is plain.
use Rattle.std.proofs.Common.{◌≡◌, ◌⊎◌, ℕ, zero, suc, ◌+◌, ◌-◌, ◌≤◌, ◌<◌, Bool, true, false, true≢false, cond, nat_eq, List, [], ◌∷◌, ◌++◌, map, length, get_or, flat_map, sum_by, count_by, option_map, Option, Some, None, sym, ◌∙◌, ap, subst, refl, arith, inl, inr, ⊎_elim, Contains, length-append}
use Rattle.std.specs.Prelude.{filter_map}
use Rattle.std.specs.List.{cons_option}
use Rattle.std.proofs.lemmas.Bool.{eq-eqb, eqb-true}
use Rattle.std.proofs.lemmas.List.{length-map}
use Rattle.std.proofs.lemmas.List.Concat.{flat_map-cons}
use Rattle.std.proofs.lemmas.List.Elements.{Contains-append_cases, Contains-append_left, Contains-append_right}
use Rattle.std.proofs.lemmas.List.Sums.{sum_by-cons}
use Rattle.sg_model.specs.Sums.{greatest, numbers, numbers_from}
use Rattle.sg_model.specs.Games.{Game, action_count}
use Rattle.sg_model.specs.Payoffs.{greatest_of}
use Rattle.sg_model.proofs.Payoffs.{Contains-flat_map, Contains-map, Contains-numbers_from}
use Rattle.sg_tree.specs.declared.fact.Fact.{Fact}
use Rattle.sg_tree.specs.declared.fix.Fix.{Fix}
use Rattle.sg_tree.specs.declared.report.Cap.{Cap}
use Rattle.sg_tree.specs.declared.worked.Worked.{Worked}
use Rattle.sg_bounds.specs.Facts.{no_fact}
use Rattle.sg_bounds.specs.Regions.{alone, prefix}
use Rattle.sg_search.specs.Searches.{Task, Search, same, worked_count, ArePlaced, IsKnown}
use Rattle.sg_search.specs.Bounding.{cap_at, cap_facts, caps_of, fact_of, least_cap, tree_of}
use Rattle.sg_search.specs.TreeLaws.{proved}
use Rattle.sg_search.proofs.Capped.{kept-all, kept-le}
use Rattle.sg_search.proofs.Enough.{counted, distinct, fixes, member}
use Rattle.sg_search.proofs.Grown.{AreSplits}
use Rattle.sg_search.proofs.Listing.{here-in, in-keyed, later-in, none-in}
use Rattle.sg_search.proofs.Opened.{fact-some, fact-worked}
use Rattle.sg_programs.specs.CauseRows.{proof_facts, spare_of, tree_facts}
use Rattle.sg_gap_laws.proofs.Facts.{Differ, Stated, differ-append, differ-short, distinct-short, node_in, proof-differ, proof-fact, proof-has, tree-differ, tree-fact, tree-has}
use Rattle.sg_gap_laws.proofs.Known.{found-in}
use Rattle.sg_gap_laws.proofs.Open.{IsPlainCap, IsProvedCap, cap-cases}

-- a node that was worked is among the worked ones
pub count-in : (x : Fix) (ws : List Worked) → 1 ≤ count_by (λ (v : Worked). same x v.fix) ws → Contains (fixes ws) x
count-in x ws h = let r = found-in (λ (w : Worked). w.fix) x ws h in subst (Contains (fixes ws)) r.2 (in-keyed (λ (w : Worked). w.fix) ws r.0 r.1)

equal-or-more : (i j : ℕ) → j ≤ i → (i ≡ j) ⊎ (j + 1 ≤ i)
equal-or-more i j h = grind (arith, h)

-- ---- the facts of the caps

abbrev pub cap_part : Cap → List Stated
cap_part c = proof_facts c.l 1 c.proof

-- what a search states, as its report does
abbrev pub facts_of : Game → Search → List Stated
facts_of g s = flat_map cap_part (caps_of g s) ++ tree_facts [] (tree_of g s)

module _ (g : Game) (s : Search) where
  abbrev caps_from : ℕ → ℕ → List Stated
  caps_from b k = flat_map cap_part (map (cap_at g s) (numbers_from b k))

  -- a fact of the cap of a type from b on is one of a worked node
  record IsCapFact (b : ℕ) (x : Stated) : Type 0 where
    l : ℕ
    low : b ≤ l
    act : ℕ
    node : node_in x ≡ alone l act
    fact : fact_of s.worked (alone l act) ≡ Some x.1

  cap-fact : (l : ℕ) (x : Stated) → Contains (cap_part (cap_at g s l)) x → IsCapFact l x
  cap-fact l x at = by (cap-cases g s l)
    where
      by : IsProvedCap g s l ⊎ IsPlainCap g s l → IsCapFact l x
      by (inl c) =
          let r = proof-fact l 1 (cap_facts g s l) x (subst (λ (d : Cap). Contains (cap_part d) x) c.is at) in
          let lt = r.in_range in
          let long = c.long in
          record {
            l = l;
            low = omega arith;
            act = 1 + r.place;
            node = r.node;
            fact = kept-all (λ a. fact_of s.worked (alone l a)) 1 (action_count g l) no_fact c.long r.place (omega (arith, lt, long)) ∙ ap (λ (f : Fact). Some f) r.fact;
          }
      by (inr c) = absurd (none-in (subst (λ (d : Cap). Contains (cap_part d) x) c.is at))

  caps-fact : (b k : ℕ) (x : Stated) → Contains (caps_from b k) x → IsCapFact b x
  caps-fact b zero x at = absurd (none-in at)
  caps-fact b (suc k) x at = ⊎_elim
      (λ here. cap-fact b x here)
      (λ later. let r = caps-fact (b + 1) k x later in let low = r.low in record { l = r.l; low = omega (arith, low); act = r.act; node = r.node; fact = r.fact })
      (Contains-append_cases (cap_part (cap_at g s b)) (caps_from (b + 1) k) x
      (subst (λ (ys : List Stated). Contains ys x) (flat_map-cons cap_part (cap_at g s b) (map (cap_at g s) (numbers_from (b + 1) k))) at))

  cap-type : (l : ℕ) → (cap_at g s l).l ≡ l
  cap-type l = ⊎_elim (λ c. ap (λ (d : Cap). d.l) c.is) (λ c. ap (λ (d : Cap). d.l) c.is) (cap-cases g s l)

  caps-differ : (b k : ℕ) → Differ (caps_from b k)
  caps-differ b zero = tt
  caps-differ b (suc k) = subst Differ (sym (flat_map-cons cap_part (cap_at g s b) (map (cap_at g s) (numbers_from (b + 1) k))))
      (differ-append (cap_part (cap_at g s b)) (caps_from (b + 1) k) (proof-differ (cap_at g s b).l 1 (cap_at g s b).proof) (caps-differ (b + 1) k)
      (λ x y at later e.
      let q = proof-fact (cap_at g s b).l 1 (cap_at g s b).proof x at in
      let r = caps-fact (b + 1) k y later in
      let low = r.low in
      let same_type : b ≡ r.l = sym (cap-type b) ∙ ap (λ (z : Fix). z.first) (sym q.node ∙ e ∙ r.node) in
      omega (arith, same_type, low)))

  -- a fact of the cap of a type is there
  caps-have : (b k : ℕ) (x : Stated) (l : ℕ) → b ≤ l → l < b + k → Contains (cap_part (cap_at g s l)) x → Contains (caps_from b k) x
  caps-have b zero x l low high at = absurd (omega (arith, low, high))
  caps-have b (suc k) x l low high at = subst (λ (ys : List Stated). Contains ys x) (sym (flat_map-cons cap_part (cap_at g s b) (map (cap_at g s) (numbers_from (b + 1) k))))
      (⊎_elim
      (λ e. Contains-append_left (cap_part (cap_at g s b)) (caps_from (b + 1) k) x (subst (λ (j : ℕ). Contains (cap_part (cap_at g s j)) x) e at))
      (λ more. Contains-append_right (cap_part (cap_at g s b)) (caps_from (b + 1) k) x (caps-have (b + 1) k x l more (omega (arith, high)) at))
      (equal-or-more l b low))

  -- ---- worked nodes of a type whose cap is plain

  abbrev node_at : ℕ → ℕ → Option Fix
  node_at l a = option_map (λ (f : Fact). alone l a) (fact_of s.worked (alone l a))

  abbrev spares : ℕ → List Fix
  spares l = cond (nat_eq (length (cap_facts g s l)) (action_count g l)) [] (filter_map (node_at l) (numbers (action_count g l)))

  same-length : (l b k : ℕ) → length (filter_map (node_at l) (numbers_from b k)) ≡ length (filter_map (λ a. fact_of s.worked (alone l a)) (numbers_from b k))
  same-length l b zero = refl
  same-length l b (suc k) = by (fact_of s.worked (alone l b)) (same-length l (b + 1) k)
    where
      by : (o : Option Fact) → length (filter_map (node_at l) (numbers_from (b + 1) k)) ≡ length (filter_map (λ a. fact_of s.worked (alone l a)) (numbers_from (b + 1) k))
          → length (cons_option (option_map (λ (f : Fact). alone l b) o) (filter_map (node_at l) (numbers_from (b + 1) k))) ≡ length (cons_option o (filter_map (λ a. fact_of s.worked (alone l a)) (numbers_from (b + 1) k)))
      by None e = e
      by (Some f) e = ap suc e

  spares-few : (l : ℕ) → length (spares l) ≤ spare_of g (cap_at g s l)
  spares-few l = by (nat_eq (length (cap_facts g s l)) (action_count g l)) refl
    where
      by : (b : Bool) → nat_eq (length (cap_facts g s l)) (action_count g l) ≡ b
          → length (cond {A = List Fix} b [] (filter_map (node_at l) (numbers (action_count g l))))
          ≤ spare_of g (cond {A = Cap} b (record { l = l; v = greatest (filter_map (least_cap g l) (cap_facts g s l)); proof = cap_facts g s l }) (record { l = l; v = greatest_of g l; proof = [] }))
      by true e = omega arith
      by false e =
          let long = same-length l 1 (action_count g l) in
          let le = kept-le (λ a. fact_of s.worked (alone l a)) 1 (action_count g l) in
          let other : length (cap_facts g s l) ≡ action_count g l → ⊥ = λ q. true≢false (sym (eq-eqb (length (cap_facts g s l)) (action_count g l) q) ∙ e) in
          below (length (filter_map (node_at l) (numbers (action_count g l)))) (length (cap_facts g s l)) (action_count g l) long le other
        where
          below : (x y z : ℕ) → x ≡ y → y ≤ z → (y ≡ z → ⊥) → x ≤ z - 1
          below x y z q le out = ⊎_elim (λ same_as. absurd (out same_as)) (λ less. omega (arith, q, less)) (full-or-less y z le)
            where
              full-or-less : (a b : ℕ) → a ≤ b → (a ≡ b) ⊎ (a < b)
              full-or-less a b h = grind (arith, h)

  abbrev spares_from : ℕ → ℕ → List Fix
  spares_from b k = flat_map spares (numbers_from b k)

  all-few : (b k : ℕ) → length (spares_from b k) ≤ sum_by (spare_of g) (map (cap_at g s) (numbers_from b k))
  all-few b zero = omega arith
  all-few b (suc k) =
      let e = ap length (flat_map-cons spares b (numbers_from (b + 1) k)) in
      let l = length-append (spares b) (spares_from (b + 1) k) in
      let here = spares-few b in
      let rest = all-few (b + 1) k in
      let c = sum_by-cons (spare_of g) (cap_at g s b) (map (cap_at g s) (numbers_from (b + 1) k)) in
      omega (arith, e, l, here, rest, c)

  kept-there : (h : ℕ → Option Fix) (b k a : ℕ) (y : Fix) → b ≤ a → a < b + k → h a ≡ Some y → Contains (filter_map h (numbers_from b k)) y
  kept-there h b zero a y low high e = absurd (omega (arith, low, high))
  kept-there h b (suc k) a y low high e = ⊎_elim
      (λ same_as. subst (λ (o : Option Fix). Contains (cons_option o (filter_map h (numbers_from (b + 1) k))) y) (sym (ap h (sym same_as) ∙ e)) (here-in y (filter_map h (numbers_from (b + 1) k))))
      (λ more. by (h b) (kept-there h (b + 1) k a y more (omega (arith, high)) e))
      (equal-or-more a b low)
    where
      by : (o : Option Fix) → Contains (filter_map h (numbers_from (b + 1) k)) y → Contains (cons_option o (filter_map h (numbers_from (b + 1) k))) y
      by None at = at
      by (Some z) at = later-in z (filter_map h (numbers_from (b + 1) k)) y at

  spares-have : (l a : ℕ) (f : Fact) → IsPlainCap g s l → 1 ≤ a → a ≤ action_count g l → fact_of s.worked (alone l a) ≡ Some f → Contains (spares l) (alone l a)
  spares-have l a f plain low high e = by (nat_eq (length (cap_facts g s l)) (action_count g l)) refl
    where
      by : (b : Bool) → nat_eq (length (cap_facts g s l)) (action_count g l) ≡ b → Contains (cond {A = List Fix} b [] (filter_map (node_at l) (numbers (action_count g l)))) (alone l a)
      by true q = absurd (plain.few (eqb-true (length (cap_facts g s l)) (action_count g l) q))
      by false q = kept-there (node_at l) 1 (action_count g l) a (alone l a) low (omega (arith, high)) (ap (λ (o : Option Fact). option_map (λ (x : Fact). alone l a) o) e)

-- ---- all of them

module _ (p : Task) (s : Search) (placed : ArePlaced p.game s) (ok : AreSplits p s) (proved_is : (acts : List ℕ) → proved (tree_of p.game s) acts ≡ fact_of s.worked (prefix acts)) where
  abbrev from_caps : List Stated
  from_caps = flat_map cap_part (caps_of p.game s)

  abbrev from_tree : List Stated
  from_tree = tree_facts [] (tree_of p.game s)

  -- each fact that is stated is the one of a worked node
  pub stated-worked : (x : Stated) → Contains (facts_of p.game s) x → fact_of s.worked (node_in x) ≡ Some x.1
  stated-worked x at = ⊎_elim
      (λ left. let r = caps-fact p.game s 2 (length p.game.types - 1) x left in ap (fact_of s.worked) r.node ∙ r.fact)
      (λ right. let r = tree-fact (tree_of p.game s) [] x right in ap (fact_of s.worked) r.node ∙ sym (proved_is r.path) ∙ r.fact)
      (Contains-append_cases from_caps from_tree x at)

  stated-differ : Differ (facts_of p.game s)
  stated-differ = differ-append from_caps from_tree (caps-differ p.game s 2 (length p.game.types - 1)) (tree-differ (tree_of p.game s) [])
      (λ x y at later e.
      let q = caps-fact p.game s 2 (length p.game.types - 1) x at in
      let r = tree-fact (tree_of p.game s) [] y later in
      let low = q.low in
      let one : q.l ≡ 1 = ap (λ (z : Fix). z.first) (sym q.node ∙ e ∙ r.node) in
      omega (arith, one, low))

  pub few : length (facts_of p.game s) ≤ length s.worked
  few =
      let l = length-map s.worked (λ (w : Worked). w.fix) in
      let le = differ-short (facts_of p.game s) (fixes s.worked) stated-differ (λ x at. count-in (node_in x) s.worked (fact-worked s.worked (node_in x) x.1 (stated-worked x at))) in
      omega (arith, l, le)

  abbrev spares_all : List Fix
  spares_all = spares_from p.game s 2 (length p.game.types - 1)

  -- each worked node is one of a stated fact, or of a type whose cap is plain
  known-there : (x : Fix) → 1 ≤ worked_count s x → IsKnown p.game s x → Contains (map node_in (facts_of p.game s) ++ spares_all) x
  known-there x worked (inl below) =
      let acts : List ℕ = below.0 ++ (below.2.act ∷ []) in
      let f = fact-some s.worked x worked in
      let e : proved (tree_of p.game s) acts ≡ Some f.0 = proved_is acts ∙ ap (fact_of s.worked) (sym below.2.node_is) ∙ f.1 in
      subst (Contains (map node_in (facts_of p.game s) ++ spares_all)) (sym below.2.node_is)
      (Contains-append_left (map node_in (facts_of p.game s)) spares_all (prefix acts)
      (Contains-map node_in (facts_of p.game s) (prefix acts, f.0) (Contains-append_right from_caps from_tree (prefix acts, f.0) (tree-has (tree_of p.game s) [] acts f.0 e))))
  known-there x worked (inr lone) = subst (Contains (map node_in (facts_of p.game s) ++ spares_all)) (sym lone.node_is) (by (cap-cases p.game s lone.l))
    where
      f : (y : Fact) × (fact_of s.worked x ≡ Some y)
      f = fact-some s.worked x worked

      e : fact_of s.worked (alone lone.l lone.act) ≡ Some f.0
      e = ap (fact_of s.worked) (sym lone.node_is) ∙ f.1

      in_types : lone.l < 2 + (length p.game.types - 1)
      in_types = let high = lone.type_in_range in let low = lone.from_two in omega (arith, high, low)

      at-place : (a : ℕ) → 1 ≤ a → a ≤ action_count p.game lone.l → IsProvedCap p.game s lone.l → Contains (map node_in (facts_of p.game s) ++ spares_all) (alone lone.l a)
      at-place zero low high c = absurd (omega (arith, low))
      at-place (suc i) low high c =
          let z : 1 + i ≡ suc i = omega arith in
          let long = c.long in
          let x0 : Stated = (alone lone.l (1 + i), get_or (cap_facts p.game s lone.l) i no_fact) in
          let here : Contains (cap_part (cap_at p.game s lone.l)) x0 = subst (λ (d : Cap). Contains (cap_part d) x0) (sym c.is) (proof-has lone.l 1 (cap_facts p.game s lone.l) i (omega (arith, high, long))) in
          Contains-append_left (map node_in (facts_of p.game s)) spares_all (alone lone.l (suc i))
          (subst (λ (a : ℕ). Contains (map node_in (facts_of p.game s)) (alone lone.l a)) z
          (Contains-map node_in (facts_of p.game s) x0 (Contains-append_left from_caps from_tree x0 (caps-have p.game s 2 (length p.game.types - 1) x0 lone.l lone.from_two in_types here))))

      by : IsProvedCap p.game s lone.l ⊎ IsPlainCap p.game s lone.l → Contains (map node_in (facts_of p.game s) ++ spares_all) (alone lone.l lone.act)
      by (inl c) = at-place lone.act lone.from_one lone.in_range c
      by (inr c) =
          Contains-append_right (map node_in (facts_of p.game s)) spares_all (alone lone.l lone.act)
          (Contains-flat_map (spares p.game s) (numbers_from 2 (length p.game.types - 1)) lone.l (alone lone.l lone.act)
          (Contains-numbers_from 2 (length p.game.types - 1) lone.l lone.from_two in_types)
          (spares-have p.game s lone.l lone.act f.0 c lone.from_one lone.in_range e))

  pub near : length s.worked ≤ length (facts_of p.game s) + sum_by (spare_of p.game) (caps_of p.game s)
  near =
      let l = length-map s.worked (λ (w : Worked). w.fix) in
      let m = length-map (facts_of p.game s) node_in in
      let a = length-append (map node_in (facts_of p.game s)) spares_all in
      let spare = all-few p.game s 2 (length p.game.types - 1) in
      let le = distinct-short (fixes s.worked) (map node_in (facts_of p.game s) ++ spares_all) (distinct s.worked (λ x. let o = placed.once x in omega (arith, o)))
      (λ x at. let c = counted x s.worked (member x (fixes s.worked) at) in known-there x c (placed.known x (omega (arith, c)))) in
      omega (arith, l, m, a, spare, le)
