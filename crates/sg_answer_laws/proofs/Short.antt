-- The text of a search's report is short, since each of its facts is that of a worked node.
use Rattle.std.proofs.Common.{◌≡◌, ℕ, zero, suc, ◌+◌, ◌*◌, ◌≤◌, Bool, true, false, cond, nat_eq, List, [], ◌∷◌, ◌++◌, map, length, filter_map, flat_map, find, option_map, sym, ◌∙◌, ap, refl, arith, ⊎_elim, Option, Some, None}
use Rattle.std.specs.List.{AllByRecursion, cons_option}
use Rattle.std.proofs.Math.Nat.{mul-le-mul_left}
use Rattle.std.proofs.lemmas.Bool.{cases_Bool}
use Rattle.std.proofs.lemmas.List.{length_push}
use Rattle.std.proofs.lemmas.Map.Views.{Contains-from_any}
use Rattle.std.proofs.lemmas.Slice.Eq.{bytes_eq-Decides}
use Rattle.sg_model.specs.Sums.{greatest, numbers_from}
use Rattle.sg_model.specs.Games.{Game, action_count}
use Rattle.sg_model.specs.Payoffs.{greatest_of}
use Rattle.sg_tree.specs.declared.fact.Fact.{Fact}
use Rattle.sg_tree.specs.declared.fix.Fix.{Fix}
use Rattle.sg_tree.specs.declared.tree.Tree.{Tree}
use Rattle.sg_tree.specs.declared.tree.Tree.TheVariants.{Unproved, Closed, Split}
use Rattle.sg_tree.specs.declared.worked.Worked.{Worked}
use Rattle.sg_tree.specs.declared.report.Cap.{Cap}
use Rattle.sg_cert.specs.Ranges.{IsCap}
use Rattle.sg_cert.specs.Text.{base_rows, cap_row, cap_rows, fact_rows, node_rows, split_row, text_of}
use Rattle.sg_cert.proofs.Trees.{rows_closed, rows_open, rows_split}
use Rattle.sg_bounds.specs.Regions.{alone, prefix}
use Rattle.sg_bounds.specs.Trees.{node_of}
use Rattle.sg_search.specs.Searches.{Task, Search, same}
use Rattle.sg_search.specs.Bounding.{cap_at, cap_facts, fact_of, is_split, least_cap, tree_of}
use Rattle.sg_search.proofs.Grown.{AreSplits}
use Rattle.sg_search.proofs.Opened.{fact-some}
use Rattle.sg_search.proofs.Placed.{one_if}
use Rattle.sg_answer_laws.proofs.Counting.{alone-parts, exchange, first_is, sum_from, sum_over, types-apart, under, under-parts}
use Rattle.sg_answer_laws.proofs.Lengths.{cap_line_long, length-both, length-rows, split_line_long}
use Rattle.sg_answer_laws.proofs.Trees.{PartsHave, Steps, tree-has}

-- ---- facts counted

none-some : {X : Type 0} {a : X} → None ≡ Some a → ⊥
none-some h = cc

-- how often a node is worked
abbrev own_count : Search → Fix → ℕ
own_count s x = sum_over (λ (w : Worked). one_if (same x w.fix)) s.worked

fact-counted : (ws : List Worked) (x : Fix) (f : Fact) → fact_of ws x ≡ Some f → 1 ≤ sum_over (λ (w : Worked). one_if (same x w.fix)) ws
fact-counted [] x f e = absurd (none-some e)
fact-counted (w ∷ ws) x f e = ⊎_elim
    (λ yes. let one : one_if (same x w.fix) ≡ 1 = ap one_if yes in omega (arith, one))
    (λ no.
    let skip : fact_of (w ∷ ws) x ≡ fact_of ws x = ap (λ (b : Bool). option_map (λ (v : Worked). v.fact) (cond b (Some w) (find (λ (v : Worked). same x v.fix) ws))) no in
    omega (arith, fact-counted ws x f (sym skip ∙ e)))
    (cases_Bool (same x w.fix))

-- how many worked nodes have these actions in front
abbrev pub under_count : Search → List ℕ → ℕ
under_count s acts = sum_over (λ (w : Worked). under acts w.fix) s.worked

-- those of the parts and the prefix itself are among them
counted-parts : (s : Search) (acts : List ℕ) (k : ℕ) → sum_from (λ a. under_count s (acts ++ (a ∷ []))) 1 k + own_count s (prefix acts) ≤ under_count s acts
counted-parts s acts k =
    exchange (λ a (w : Worked). under (acts ++ (a ∷ [])) w.fix) (λ (w : Worked). one_if (same (prefix acts) w.fix)) (λ (w : Worked). under acts w.fix) 1 k s.worked (λ w. under-parts acts 1 k w.fix)

-- ---- the caps

-- the facts of some nodes, where each has so much room
kept-short : (s : Search) (room : ℕ) → ((x : Fix) (f : Fact) → fact_of s.worked x ≡ Some f → length (text_of (fact_rows f)) ≤ room) → (h : ℕ → Fix) (b k : ℕ)
    → length (text_of (flat_map fact_rows (filter_map (λ a. fact_of s.worked (h a)) (numbers_from b k)))) ≤ room * sum_from (λ a. own_count s (h a)) b k
kept-short s room facts h b zero = omega arith
kept-short s room facts h b (suc k) = by (fact_of s.worked (h b)) refl (kept-short s room facts h (b + 1) k)
  where
    rest : List Fact
    rest = filter_map (λ a. fact_of s.worked (h a)) (numbers_from (b + 1) k)

    later : ℕ
    later = sum_from (λ a. own_count s (h a)) (b + 1) k

    by : (o : Option Fact) → fact_of s.worked (h b) ≡ o → length (text_of (flat_map fact_rows (filter_map (λ a. fact_of s.worked (h a)) (numbers_from (b + 1) k)))) ≤ room * sum_from (λ a. own_count s (h a)) (b + 1) k
        → length (text_of (flat_map fact_rows (cons_option o (filter_map (λ a. fact_of s.worked (h a)) (numbers_from (b + 1) k))))) ≤ room * (own_count s (h b) + sum_from (λ a. own_count s (h a)) (b + 1) k)
    by None e le =
        let more : later ≤ own_count s (h b) + later = omega arith in
        omega (arith, le, mul-le-mul_left room more)
    by (Some f) e le =
        let own = fact-counted s.worked (h b) f e in
        let more : suc later ≤ own_count s (h b) + later = omega (arith, own) in
        omega (arith, length-both (fact_rows f) (flat_map fact_rows rest), facts (h b) f e, le, mul-le-mul_left room more)

-- how many worked nodes fix this type first
abbrev pub first_count : Search → ℕ → ℕ
first_count s l = sum_over (λ (w : Worked). first_is l w.fix) s.worked

alone-counted : (s : Search) (l k : ℕ) → sum_from (λ a. own_count s (alone l a)) 1 k ≤ first_count s l
alone-counted s l k =
    let le = exchange (λ a (w : Worked). one_if (same (alone l a) w.fix)) (λ (w : Worked). 0) (λ (w : Worked). first_is l w.fix) 1 k s.worked (λ w. alone-parts l 1 k w.fix) in
    omega (arith, le)

cap-short : (g : Game) (s : Search) (room : ℕ) → ((x : Fix) (f : Fact) → fact_of s.worked x ≡ Some f → length (text_of (fact_rows f)) ≤ room) → (l : ℕ) → IsCap (cap_at g s l)
    → length (text_of (cap_rows (cap_at g s l))) ≤ 70 + room * first_count s l
cap-short g s room facts l is =
    let proof = by (nat_eq (length (cap_facts g s l)) (action_count g l)) in
    omega (arith, length-rows (cap_row (cap_at g s l)) (flat_map fact_rows (cap_at g s l).proof), cap_line_long (cap_at g s l) is, proof)
  where
    by : (b : Bool)
        → length (text_of (flat_map fact_rows (cond {A = Cap} b (record { l = l; v = greatest (filter_map (least_cap g l) (cap_facts g s l)); proof = cap_facts g s l }) (record { l = l; v = greatest_of g l; proof = [] })).proof)) ≤ room * first_count s l
    by true = omega (arith, kept-short s room facts (alone l) 1 (action_count g l), mul-le-mul_left room (alone-counted s l (action_count g l)))
    by false = omega arith

pub caps-short : (g : Game) (s : Search) (room : ℕ) → ((x : Fix) (f : Fact) → fact_of s.worked x ≡ Some f → length (text_of (fact_rows f)) ≤ room) → (b k : ℕ) → AllByRecursion IsCap (map (cap_at g s) (numbers_from b k))
    → length (text_of (flat_map cap_rows (map (cap_at g s) (numbers_from b k)))) ≤ 70 * k + room * sum_from (first_count s) b k
caps-short g s room facts b zero are = omega arith
caps-short g s room facts b (suc k) are =
    omega (arith, length-both (cap_rows (cap_at g s b)) (flat_map cap_rows (map (cap_at g s) (numbers_from (b + 1) k))), cap-short g s room facts b are.0, caps-short g s room facts (b + 1) k are.1)

-- ---- all worked nodes

-- the nodes of caps and the prefixes are no more than are worked
pub all-counted : (s : Search) (k : ℕ) → sum_from (first_count s) 2 k + under_count s [] ≤ length s.worked
all-counted s k =
    let le = exchange (λ l (w : Worked). first_is l w.fix) (λ (w : Worked). under [] w.fix) (λ (w : Worked). 1) 2 k s.worked (λ w. types-apart k w.fix) in
    omega (arith, le, ones s.worked)
  where
    ones : (ws : List Worked) → sum_over (λ (w : Worked). 1) ws ≡ length ws
    ones [] = refl
    ones (w ∷ ws) = omega (arith, ones ws)

-- ---- the tree

-- what the text of the root takes beside its parts, and what that of another node may take that isn't worked
abbrev pub slack : ℕ → List ℕ → ℕ
slack rows [] = 23 + 5 * rows
slack rows (a ∷ acts) = 5

slack-push : (rows : ℕ) (acts : List ℕ) (a : ℕ) → slack rows (acts ++ (a ∷ [])) ≡ 5
slack-push rows [] a = refl
slack-push rows (x ∷ acts) a = refl

five-slack : (rows : ℕ) (acts : List ℕ) → 5 ≤ slack rows acts
five-slack rows [] = omega arith
five-slack rows (a ∷ acts) = omega arith

-- the text of a node, where so much is room for a fact and so much for a worked node
module _ (p : Task) (s : Search) (ok : AreSplits p s) (rows fact_room room : ℕ) (wide : fact_room + (18 + 5 * rows) ≤ room)
    (actions : (l : ℕ) → 1 ≤ l → l ≤ length p.game.types → action_count p.game l ≤ rows) (few : rows ≤ 65535) (types : length p.game.types ≤ 8)
    (facts : (x : Fix) (f : Fact) → fact_of s.worked x ≡ Some f → length (text_of (fact_rows f)) ≤ fact_room) where
  abbrev IsShortAt : ℕ → List ℕ → Tree → Type 0
  IsShortAt d acts t = length acts + d ≤ length p.game.types → length (text_of (node_rows t)) ≤ slack rows acts + room * under_count s acts

  open-short : (d : ℕ) (acts : List ℕ) → IsShortAt d acts Unproved
  open-short d acts le =
      let rows_are : text_of (node_rows Unproved) ≡ text_of (base_rows None) = ap text_of rows_open in
      omega (arith, ap length rows_are, five-slack rows acts)

  -- a fact and what is below it are within the room of the nodes in front of which its prefix stands
  within-room : (acts : List ℕ) (f : Fact) (k : ℕ) → fact_of s.worked (prefix acts) ≡ Some f → room + room * sum_from (λ a. under_count s (acts ++ (a ∷ []))) 1 k ≤ room * under_count s acts
  within-room acts f k e =
      let below : ℕ = sum_from (λ a. under_count s (acts ++ (a ∷ []))) 1 k in
      let own = fact-counted s.worked (prefix acts) f e in
      let all = counted-parts s acts k in
      let le : suc below ≤ under_count s acts = omega (arith, own, all) in
      omega (arith, mul-le-mul_left room le)

  closed-short : (d : ℕ) (acts : List ℕ) (f : Fact) → fact_of s.worked (prefix acts) ≡ Some f → IsShortAt d acts (Closed f)
  closed-short d acts f e le =
      let rows_are : text_of (node_rows (Closed f)) ≡ text_of (fact_rows f) = ap text_of (rows_closed f) in
      omega (arith, ap length rows_are, facts (prefix acts) f e, wide, within-room acts f 0 e)

  parts-short : (d : ℕ) (acts : List ℕ) (a : ℕ) (us : List Tree) → PartsHave (λ a u. IsShortAt d (acts ++ (a ∷ [])) u) a us → length acts + suc d ≤ length p.game.types
      → length (text_of (flat_map node_rows us)) ≤ 5 * length us + room * sum_from (λ b. under_count s (acts ++ (b ∷ []))) a (length us)
  parts-short d acts a [] have le = omega arith
  parts-short d acts a (u ∷ us) have le =
      let one = length_push acts a in
      let here = have.0 (omega (arith, one, le)) in
      omega (arith, length-both (node_rows u) (flat_map node_rows us), here, slack-push rows acts a, parts-short d acts (a + 1) us have.1 le)

  -- the root has no fact, and each other split prefix has one
  split-fact : (acts : List ℕ) → is_split s.splits acts ≡ true → fact_of s.worked (prefix acts) ≡ None → acts ≡ []
  split-fact acts is none = ⊎_elim
      (λ root. root)
      (λ worked. let f = fact-some s.worked (prefix acts) worked in absurd (none-some (sym none ∙ f.1)))
      (ok.worked acts (Contains-from_any (λ x y. (bytes_eq-Decides x y).0) acts s.splits is))

  -- the parts of a split, with its line and its base
  split-short : (acts : List ℕ) (base : Option Fact) (k size : ℕ) → is_split s.splits acts ≡ true → fact_of s.worked (prefix acts) ≡ base → k ≤ rows
      → size ≤ 5 * k + room * sum_from (λ b. under_count s (acts ++ (b ∷ []))) 1 k → 18 + length (text_of (base_rows base)) + size ≤ slack rows acts + room * under_count s acts
  split-short acts None k size is own low le =
      let all = counted-parts s acts k in
      let below : ℕ = sum_from (λ a. under_count s (acts ++ (a ∷ []))) 1 k in
      let most : below ≤ under_count s acts = omega (arith, all) in
      let slack_is : slack rows acts ≡ 23 + 5 * rows = ap (slack rows) (split-fact acts is own) in
      omega (arith, slack_is, low, le, mul-le-mul_left room most)
  split-short acts (Some f) k size is own low le =
      omega (arith, facts (prefix acts) f own, wide, low, le, within-room acts f k own)

  short-steps : Steps p.game s IsShortAt
  short-steps = record {
    unproved_is = λ d acts e. open-short d acts;
    closed_is = closed-short;
    split_is = λ d acts base parts is own count have le.
        let l : ℕ = length acts + 1 in
        let most = actions l (omega arith) (omega (arith, le)) in
        let rows_are : text_of (node_rows (Split (length acts + 1) base parts)) ≡ text_of ((split_row (length acts + 1) (length parts) ∷ base_rows base) ++ flat_map node_rows parts) = ap text_of (rows_split (length acts + 1) base parts) in
        omega (
          arith,
          ap length rows_are,
          length-both (split_row (length acts + 1) (length parts) ∷ base_rows base) (flat_map node_rows parts),
          length-rows (split_row (length acts + 1) (length parts)) (base_rows base),
          split_line_long (length acts + 1) (length parts) (omega (arith, le, types)) (omega (arith, count, most, few)),
          split-short acts base (length parts) (length (text_of (flat_map node_rows parts))) is own (omega (arith, count, most)) (parts-short d acts 1 parts have le),
        );
  }

  -- the text of the whole tree
  pub tree-short : (t : Tree) → node_of t ≡ tree_of p.game s → length (text_of (node_rows t)) ≤ 23 + 5 * rows + room * under_count s []
  tree-short t e = tree-has p.game s IsShortAt short-steps (length p.game.types) [] t e (omega arith)
