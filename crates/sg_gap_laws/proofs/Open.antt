-- What stays unproved: a part of the tree that isn't worked, and the cap of a type with a node that isn't.
use Rattle.std.proofs.Common.{◌≡◌, ◌⊎◌, ℕ, zero, suc, ◌+◌, ◌≤◌, ◌<◌, nat_eq, Bool, true, false, true≢false, cond, List, [], ◌∷◌, ◌++◌, map, length, Option, Some, None, sym, ◌∙◌, ap, subst, refl, arith, inl, inr, ⊎_elim, Contains, append-nil, append_assoc, length-append}
use Rattle.std.specs.Prelude.{filter_map}
use Rattle.std.proofs.lemmas.Bool.{cases_Bool, eq-eqb, eqb-true}
use Rattle.std.proofs.lemmas.List.{length_push}
use Rattle.sg_model.specs.Sums.{greatest, numbers, numbers_from}
use Rattle.sg_model.specs.Games.{Game, action_count}
use Rattle.sg_model.specs.Payoffs.{greatest_of}
use Rattle.sg_tree.specs.declared.fact.Fact.{Fact}
use Rattle.sg_tree.specs.declared.report.Cap.{Cap}
use Rattle.sg_bounds.specs.Facts.{no_fact}
use Rattle.sg_bounds.specs.Regions.{alone, prefix}
use Rattle.sg_bounds.specs.Trees.{Node, parts_of, split}
use Rattle.sg_search.specs.Searches.{Task, Search, worked_count, ArePlaced}
use Rattle.sg_search.specs.Bounding.{cap_at, cap_facts, fact_of, is_split, leaf_with, least_cap, tree_at, tree_of}
use Rattle.sg_search.proofs.Capped.{kept-all}
use Rattle.sg_search.proofs.Grown.{AreSplits, ancestors, fact-none, split-yes}
use Rattle.sg_search.proofs.Opened.{fact-worked, not-true, split-out}
use Rattle.sg_programs.specs.CauseRows.{IsOpenAt, IsOpenIn}

-- ---- an open part

-- the part of a split to which an action leads
open-part : (t : ℕ → Node) (rest : List ℕ) (b k i : ℕ) → i < k → IsOpenAt (t (b + i)) rest → IsOpenIn (parts_of (map t (numbers_from b k))) (suc i) rest
open-part t rest b zero i lt h = absurd (omega (arith, lt))
open-part t rest b (suc k) zero lt h = let e : b + 0 ≡ b = omega arith in subst (λ (j : ℕ). IsOpenAt (t j) rest) e h
open-part t rest b (suc k) (suc i) lt h = let e : b + suc i ≡ b + 1 + i = omega arith in open-part t rest (b + 1) k i (omega (arith, lt)) (subst (λ (j : ℕ). IsOpenAt (t j) rest) e h)

module _ (p : Task) (s : Search) (placed : ArePlaced p.game s) (ok : AreSplits p s) (acts : List ℕ) (at : Contains s.splits acts) (act : ℕ) (from_one : 1 ≤ act) (in_range : act ≤ action_count p.game (length acts + 1))
    (fresh : worked_count s (prefix (acts ++ (act ∷ []))) ≡ 0) where
  abbrev here : List ℕ
  here = acts ++ (act ∷ [])

  -- what leads there is split
  above : (x : List ℕ) (a : ℕ) (rest : List ℕ) → acts ≡ x ++ (a ∷ rest) → Contains s.splits x × (1 ≤ a) × (a ≤ action_count p.game (length x + 1))
  above x a rest e = ⊎_elim
      (λ none. absurd (let l : length (x ++ (a ∷ rest)) ≡ 0 = ap length (sym e ∙ none) in let k = length-append x (a ∷ rest) in omega (arith, l, k)))
      (λ worked. ancestors p s placed ok (length rest) x a rest refl (subst (λ (z : List ℕ). 1 ≤ worked_count s (prefix z)) e worked))
      (ok.worked acts at)

  unsplit : is_split s.splits here ≡ false
  unsplit = not-true (is_split s.splits here) (λ yes. ⊎_elim
      (λ empty. let l = length_push acts act in let z : length here ≡ 0 = ap length empty in omega (arith, l, z))
      (λ worked. omega (arith, fresh, worked))
      (ok.worked here (split-out s.splits here yes)))

  -- the part itself is a leaf without a fact
  leaf-open : IsOpenAt (leaf_with (fact_of s.worked (prefix here))) []
  leaf-open = subst (λ (o : Option Fact). IsOpenAt (leaf_with o) []) (sym (fact-none s.worked (prefix here) fresh)) tt

  last-open : (n : ℕ) → IsOpenAt (tree_at p.game s n here) []
  last-open zero = leaf-open
  last-open (suc n) = by (is_split s.splits here) unsplit
    where
      by : (b : Bool) → b ≡ false
          → IsOpenAt (cond b (split (length here + 1) (fact_of s.worked (prefix here)) (parts_of (map (λ c. tree_at p.game s n (here ++ (c ∷ []))) (numbers (action_count p.game (length here + 1)))))) (leaf_with (fact_of s.worked (prefix here)))) []
      by true e = absurd (true≢false e)
      by false e = leaf-open

  -- one step down a split
  step-down : (n : ℕ) (x : List ℕ) (a : ℕ) (rest : List ℕ) → Contains s.splits x → 1 ≤ a → a ≤ action_count p.game (length x + 1) → IsOpenAt (tree_at p.game s n (x ++ (a ∷ []))) rest → IsOpenAt (tree_at p.game s (suc n) x) (a ∷ rest)
  step-down n x zero rest split_at low high below = absurd (omega (arith, low))
  step-down n x (suc i) rest split_at low high below = by (is_split s.splits x) (split-yes s.splits x split_at)
    where
      by : (b : Bool) → b ≡ true
          → IsOpenAt (cond b (split (length x + 1) (fact_of s.worked (prefix x)) (parts_of (map (λ c. tree_at p.game s n (x ++ (c ∷ []))) (numbers (action_count p.game (length x + 1)))))) (leaf_with (fact_of s.worked (prefix x)))) (suc i ∷ rest)
      by false e = absurd (true≢false (sym e))
      by true e =
          let z : suc i ≡ 1 + i = omega arith in
          open-part (λ c. tree_at p.game s n (x ++ (c ∷ []))) rest 1 (action_count p.game (length x + 1)) i (omega (arith, high))
          (subst (λ (j : ℕ). IsOpenAt (tree_at p.game s n (x ++ (j ∷ []))) rest) z below)

  down : (n : ℕ) (x rest : List ℕ) → n + length x ≡ length p.game.types → acts ≡ x ++ rest → IsOpenAt (tree_at p.game s n x) (rest ++ (act ∷ []))
  down zero x [] e is = absurd (let short = ok.short x (subst (Contains s.splits) (is ∙ append-nil x) at) in omega (arith, short, e))
  down zero x (a ∷ rest) e is = absurd (let short = ok.short x (above x a rest is).0 in omega (arith, short, e))
  down (suc n) x [] e is =
      let same_as : acts ≡ x = is ∙ append-nil x in
      subst (λ (z : List ℕ). IsOpenAt (tree_at p.game s (suc n) z) (act ∷ [])) same_as (step-down n acts act [] at from_one in_range (last-open n))
  down (suc n) x (a ∷ rest) e is =
      let up = above x a rest is in
      step-down n x a (rest ++ (act ∷ [])) up.0 up.1 up.2 (down n (x ++ (a ∷ [])) rest (let l = length_push x a in omega (arith, e, l)) (is ∙ sym (append_assoc x (a ∷ []) rest)))

  -- a part of a split that isn't worked is open in the tree
  pub tree-open : IsOpenAt (tree_of p.game s) here
  tree-open = down (length p.game.types) [] acts (omega arith) refl

-- ---- a plain cap

-- a cap is proved by the facts of all nodes of its type, or plain where one of them isn't worked
pub record IsProvedCap (g : Game) (s : Search) (l : ℕ) : Type 0 where
  pub long : length (cap_facts g s l) ≡ action_count g l
  pub is : cap_at g s l ≡ record { l = l; v = greatest (filter_map (least_cap g l) (cap_facts g s l)); proof = cap_facts g s l }

pub record IsPlainCap (g : Game) (s : Search) (l : ℕ) : Type 0 where
  pub few : length (cap_facts g s l) ≡ action_count g l → ⊥
  pub is : cap_at g s l ≡ record { l = l; v = greatest_of g l; proof = [] }

pub cap-cases : (g : Game) (s : Search) (l : ℕ) → IsProvedCap g s l ⊎ IsPlainCap g s l
cap-cases g s l = ⊎_elim
    (λ yes. inl (record {
      long = eqb-true (length (cap_facts g s l)) (action_count g l) yes;
      is = ap (λ (b : Bool). cond {A = Cap} b (record { l = l; v = greatest (filter_map (least_cap g l) (cap_facts g s l)); proof = cap_facts g s l }) (record { l = l; v = greatest_of g l; proof = [] })) yes;
    }))
    (λ out. inr (record {
      few = λ e. true≢false (sym (eq-eqb (length (cap_facts g s l)) (action_count g l) e) ∙ out);
      is = ap (λ (b : Bool). cond {A = Cap} b (record { l = l; v = greatest (filter_map (least_cap g l) (cap_facts g s l)); proof = cap_facts g s l }) (record { l = l; v = greatest_of g l; proof = [] })) out;
    }))
    (cases_Bool (nat_eq (length (cap_facts g s l)) (action_count g l)))

-- where all nodes of a type are worked its cap is proved, so where one isn't it is plain
pub unworked-plain : (g : Game) (s : Search) (l a : ℕ) → 1 ≤ a → a ≤ action_count g l → worked_count s (alone l a) ≡ 0 → (cap_at g s l).proof ≡ []
unworked-plain g s l zero low high fresh = absurd (omega (arith, low))
unworked-plain g s l (suc i) low high fresh = ⊎_elim
    (λ proved_is.
    let q = kept-all (λ a. fact_of s.worked (alone l a)) 1 (action_count g l) no_fact proved_is.long i (omega (arith, high)) in
    let z : 1 + i ≡ suc i = omega arith in
    let w = fact-worked s.worked (alone l (1 + i)) _ q in
    let w2 : 1 ≤ worked_count s (alone l (suc i)) = subst (λ (a : ℕ). 1 ≤ worked_count s (alone l a)) z w in
    absurd (omega (arith, w2, fresh)))
    (λ plain. ap (λ (c : Cap). c.proof) plain.is)
    (cap-cases g s l)

-- where a cap is plain, a node of its type isn't worked
kept-short : (h : ℕ → Option Fact) (b k : ℕ) → (length (filter_map h (numbers_from b k)) ≡ k → ⊥) → (a : ℕ) × ((b ≤ a) × (a < b + k) × (h a ≡ None))
kept-short h b zero out = absurd (out refl)
kept-short h b (suc k) out = by (h b) refl out (kept-short h (b + 1) k)
  where
    by : (o : Option Fact) → h b ≡ o → (length (Rattle.std.specs.List.cons_option o (filter_map h (numbers_from (b + 1) k))) ≡ suc k → ⊥)
        → ((length (filter_map h (numbers_from (b + 1) k)) ≡ k → ⊥) → (a : ℕ) × ((b + 1 ≤ a) × (a < b + 1 + k) × (h a ≡ None)))
        → (a : ℕ) × ((b ≤ a) × (a < b + suc k) × (h a ≡ None))
    by None e short later = (b, (omega arith, omega arith, e))
    by (Some f) e short later =
        let r = later (λ q. short (omega (arith, q))) in
        let low = r.1.0 in
        let high = r.1.1 in
        (r.0, (omega (arith, low), omega (arith, high), r.1.2))

pub plain-unworked : (g : Game) (s : Search) (l : ℕ) → IsPlainCap g s l → (a : ℕ) × ((1 ≤ a) × (a ≤ action_count g l) × (fact_of s.worked (alone l a) ≡ None))
plain-unworked g s l plain =
    let r = kept-short (λ a. fact_of s.worked (alone l a)) 1 (action_count g l) plain.few in
    let high = r.1.1 in
    (r.0, (r.1.0, omega (arith, high), r.1.2))
