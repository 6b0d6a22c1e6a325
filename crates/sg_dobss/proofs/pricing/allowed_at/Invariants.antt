use Rattle.std.proofs.Common.{◌≡◌, drop, pos, take}
use Rattle.sg_rows.specs.Rows.{place}
use Rattle.sg_dobss.specs.Tables.{entry_in}
use Rattle.sg_dobss.proofs.Summed.{formed_at}
use Rattle.sg_dobss.proofs.pricing.allowed_at.Given as goal

-- what is formed from the start is what is formed from here on
abbrev pub invariant-loop-i : goal.invariant-loop-i
invariant-loop-i l =
    formed_at (place l.y) (λ j. entry_in l.rows j l.k) (pos 0) (take l.live.count l.live.places)
    ≡ formed_at (place l.y) (λ j. entry_in l.rows j l.k) l.acc (drop l.i (take l.live.count l.live.places))
