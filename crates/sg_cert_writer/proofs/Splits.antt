-- Writing a split part by part.
use Rattle.std.proofs.Common.{◌≡◌, ℕ, ◌+◌, ◌<◌, ◌≤◌, List, ◌∷◌, ◌++◌, length, take, get_or, Option, sym, ap, subst, ◌∙◌}
use Rattle.std.specs.List.{flat_map}
use Rattle.sg_tree.specs.declared.fact.Fact.{Fact}
use Rattle.sg_tree.specs.declared.tree.Tree.{Tree}
use Rattle.sg_tree.specs.declared.tree.Tree.TheVariants.{Split}
use Rattle.sg_cert.specs.Text.{base_rows, node_rows, split_row, text_of}
use Rattle.sg_shelf.specs.States.{SinkState}
use Rattle.sg_cert_writer.specs.Writing.{Adds, StopsInside}
use Rattle.sg_cert_writer.proofs.Adding.{folds_more, folds_stop, folds_end, folds_start, Adds-trans, Stops-trans, Stops-early, Stops-as}
use Rattle.sg_cert_writer.proofs.LineTexts.{folds_blocks, report_split}
use Rattle.sg_cert.proofs.Trees.{rows_split}

abbrev front_of : ℕ → Option Fact → List Tree → List ℕ
front_of l base parts = text_of (split_row l (length parts) ∷ base_rows base)

texts_split : (t : Tree) (l : ℕ) (base : Option Fact) (parts : List Tree) → t ≡ Split l base parts → front_of l base parts ++ text_of (flat_map node_rows parts) ≡ text_of (node_rows t)
texts_split t l base parts e = report_split (split_row l (length parts) ∷ base_rows base) (flat_map node_rows parts) ∙ ap text_of (sym (rows_split l base parts) ∙ ap node_rows (sym e))

abbrev texts : List Tree → List ℕ
texts ts = text_of (flat_map node_rows ts)

-- what a loop over the parts keeps: the front, and the parts so far
pub record SplitSoFar (a : SinkState) (p : List ℕ) (c : SinkState) (r : List ℕ) (t : Tree) (parts : List Tree) (i : ℕ) : Type 0 where
  pub front : List ℕ
  pub whole : front ++ texts parts ≡ text_of (node_rows t)
  pub middle : SinkState
  pub pending : List ℕ
  pub before : Adds a p middle pending front
  pub after : Adds middle pending c r (texts (take i parts))

pub split_start : (t : Tree) (l : ℕ) (base : Option Fact) (a b : SinkState) (p q : List ℕ) (parts ps : List Tree) → t ≡ Split l base parts → ps ≡ parts
    → Adds a p b q (front_of l base parts) → SplitSoFar a p b q t ps 0
split_start t l base a b p q parts ps e s h = record {
  front = front_of l base parts;
  whole = ap (λ (ts : List Tree). front_of l base parts ++ texts ts) s ∙ texts_split t l base parts e;
  middle = b;
  pending = q;
  before = h;
  after = folds_start texts (λ t. text_of (node_rows t)) (folds_blocks node_rows) ps b q;
}

pub split_more : (t : Tree) (a b c : SinkState) (p q r : List ℕ) (parts : List Tree) (i : ℕ) (x : Tree) → i < length parts → x ≡ get_or parts i x
    → SplitSoFar a p b q t parts i → Adds b q c r (text_of (node_rows x)) → SplitSoFar a p c r t parts (i + 1)
split_more t a b c p q r parts i x lt is h more = record {
  front = h.front;
  whole = h.whole;
  middle = h.middle;
  pending = h.pending;
  before = h.before;
  after = folds_more texts (λ t. text_of (node_rows t)) (folds_blocks node_rows) parts i x x lt is h.middle b c h.pending q r h.after more;
}

pub split_stop : (t : Tree) (a b c : SinkState) (p q : List ℕ) (parts : List Tree) (i : ℕ) (x : Tree) → i < length parts → x ≡ get_or parts i x
    → SplitSoFar a p b q t parts i → StopsInside b q c (text_of (node_rows x)) → StopsInside a p c (text_of (node_rows t))
split_stop t a b c p q parts i x lt is h stop =
    Stops-as a c p _ _ h.whole
    (Stops-trans a h.middle c p h.pending h.front (texts parts) h.before
    (folds_stop texts (λ t. text_of (node_rows t)) (folds_blocks node_rows) parts i x x lt is h.middle b c h.pending q h.after stop))

pub split_end : (t : Tree) (a b : SinkState) (p q : List ℕ) (parts : List Tree) (i : ℕ) → length parts ≤ i
    → SplitSoFar a p b q t parts i → Adds a p b q (text_of (node_rows t))
split_end t a b p q parts i le h =
    subst (λ (u : List ℕ). Adds a p b q u) h.whole
    (Adds-trans a h.middle b p h.pending q h.front (texts parts) h.before (folds_end texts parts i le h.middle b h.pending q h.after))

pub split_early : (t : Tree) (l : ℕ) (base : Option Fact) (a c : SinkState) (p : List ℕ) (parts : List Tree) → t ≡ Split l base parts → StopsInside a p c (front_of l base parts) → StopsInside a p c (text_of (node_rows t))
split_early t l base a c p parts e stop = Stops-as a c p _ _ (texts_split t l base parts e) (Stops-early a c p (front_of l base parts) (texts parts) stop)

pub front_count : (l n : ℕ) (base : Option Fact) (parts : List Tree) → n ≡ length parts → text_of (split_row l n ∷ base_rows base) ≡ front_of l base parts
front_count l n base parts e = ap (λ (k : ℕ). text_of (split_row l k ∷ base_rows base)) e

pub Adds-as : (a c : SinkState) (p s t u : List ℕ) → t ≡ u → Adds a p c s t → Adds a p c s u
Adds-as a c p s t u e w = subst (λ (xs : List ℕ). Adds a p c s xs) e w
