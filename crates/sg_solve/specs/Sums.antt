-- That the sums which a report states under its value are those of which a commitment's value is formed.
use Rattle.std.specs.Prelude.{◌↔◌, List, All, IsOk}
use Rattle.sg_model.specs.declared.ticket.Ticket.{Ticket}
use Rattle.sg_model.specs.Games.{Game}
use Rattle.sg_commit.specs.ExactSums.{exact_base}
use Rattle.sg_num.specs.Exact.{Fits}
use Rattle.sg_bounds.specs.Sizes.{value_sums}

-- the sums that a report states under the value of tickets fit exactly where no operation under their value leaves 128 bits
abbrev pub ValueSumsAgree : Type 0
ValueSumsAgree = (g : Game) (k : List Ticket) → All Fits (value_sums g k) ↔ IsOk (exact_base g k)
