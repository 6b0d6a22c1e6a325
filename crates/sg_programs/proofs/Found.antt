-- The column that pricing finds.
use Rattle.std.proofs.Common.{◌≡◌, ◌∙◌, ℕ, sym}
use Rattle.sg_num.specs.declared.step.Wide.{Wide}
use Rattle.sg_lp.specs.declared.column.Column.{Column}
use Rattle.sg_lp.specs.Pricing.{Answer, clean, found, spent, wide}

pub found-same : (c d : Column) → found c ≡ found d → c ≡ d
found-same c d q = cc

-- no other answer has a column
pub clean-found : (n : ℕ) (a : Answer) (here c : Column) → a ≡ clean n → a ≡ found c → here ≡ c
clean-found n a here c is f = absurd (apart n c (sym is ∙ f))
  where
    apart : (n : ℕ) (c : Column) → clean n ≡ found c → ⊥
    apart n c q = cc

pub spent-found : (a : Answer) (here c : Column) → a ≡ spent → a ≡ found c → here ≡ c
spent-found a here c is f = absurd (apart c (sym is ∙ f))
  where
    apart : (c : Column) → spent ≡ found c → ⊥
    apart c q = cc

pub wide-found : (name : ℕ) (w : Wide) (a : Answer) (here c : Column) → a ≡ wide name w → a ≡ found c → here ≡ c
wide-found name w a here c is f = absurd (apart name w c (sym is ∙ f))
  where
    apart : (name : ℕ) (w : Wide) (c : Column) → wide name w ≡ found c → ⊥
    apart name w c q = cc
