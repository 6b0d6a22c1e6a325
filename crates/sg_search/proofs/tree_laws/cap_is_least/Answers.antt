use Rattle.sg_search.proofs.Ranges.{cap-least}
use Rattle.sg_search.proofs.tree_laws.cap_is_least.Goals as goal

pub returns : goal.returns
returns c = λ g peopled s results k is_k l low high long top. cap-least g peopled s results k is_k l low high long top
