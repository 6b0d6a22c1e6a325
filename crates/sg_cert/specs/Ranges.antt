-- What holds of a report whose text is a report text: the ranges of its numbers, the order of its lists, the depth of
-- its splits.
use Rattle.std.specs.Prelude.{◌≡◌, ℕ, zero, suc, ◌≤◌, ◌-◌, ◌^◌, true, List, [], ◌∷◌, length, Option, Some, None, ℤ, pos, negsuc, ◌≤ℤ◌}
use Rattle.std.specs.List.{AllByRecursion}
use Rattle.sg_model.specs.declared.level.Level.{Level}
use Rattle.sg_model.specs.declared.level.Level.TheVariants.{Resources, Target}
use Rattle.sg_model.specs.declared.ticket.Ticket.{Ticket}
use Rattle.sg_num.specs.Exact.{fits, Fits}
use Rattle.sg_frac.specs.Fractions.{Fraction, IsReduced}
use Rattle.sg_tree.specs.Claims.{Claimed, is_claim}
use Rattle.sg_tree.specs.declared.fact.Mark.{Mark}
use Rattle.sg_tree.specs.declared.fact.Line.{Line}
use Rattle.sg_tree.specs.declared.fact.Fact.{Fact}
use Rattle.sg_tree.specs.declared.fact.Fact.TheVariants.{Plays, Cover, Water}
use Rattle.sg_tree.specs.declared.fix.Fix.{Fix}
use Rattle.sg_tree.specs.declared.tree.Tree.{Tree}
use Rattle.sg_tree.specs.declared.tree.Tree.TheOpen.{Tree-F}
use Rattle.sg_tree.specs.declared.tree.Tree.TheViews.{out-Tree}
use Rattle.sg_tree.specs.declared.report.Cap.{Cap}
use Rattle.sg_tree.specs.declared.report.Cause.{Cause}
use Rattle.sg_tree.specs.declared.report.Cause.TheVariants as causes
use Rattle.sg_tree.specs.declared.report.Ending.{Ending}
use Rattle.sg_tree.specs.declared.report.Ending.TheVariants.{Optimal, Gap}
use Rattle.sg_tree.specs.declared.report.Report.{Report}
use Rattle.sg_cert.specs.LineReading.{mark_follows, row_follows}
use Rattle.sg_cert.specs.Text.{report_text}

-- a number from one to another
abbrev pub IsFrom : ℕ → ℕ → ℕ → Type 0
IsFrom low high n = (low ≤ n) × (n ≤ high)

abbrev pub FitsFrom : ℤ → ℤ → Type 0
FitsFrom low z = (low ≤ℤ z) × Fits z

-- each item stands so to the item before it
abbrev pub Rises : {A : Type 0} → (Option A → A → Type 0) → Option A → List A → Type 0
Rises P before [] = Unit {0}
Rises P before (x ∷ xs) = P before x × Rises P (Some x) xs

pub record IsFraction (f : Fraction) : Type 0 where
  pub num : Fits f.num
  pub den : Fits f.den
  pub reduced : IsReduced f

pub record IsTicket (t : Ticket) : Type 0 where
  pub weight : Fits t.weight
  pub count : length t.play.code ≤ 200
  pub choices : AllByRecursion (λ c. c ≤ 65535) t.play.code

pub record IsClaim (c : Claimed) : Type 0 where
  pub rules : is_claim c.tickets ≡ true
  pub each : AllByRecursion IsTicket c.tickets
  pub count : length c.tickets ≤ 2 ^ 127 - 1
  pub total : Fits c.total

-- a mark in its ranges, behind the one before
pub record IsMark (before : Option Mark) (m : Mark) : Type 0 where
  pub l : IsFrom 1 8 m.l
  pub a : IsFrom 1 65535 m.a
  pub v : FitsFrom (pos 1) m.v
  pub order : mark_follows before m.l m.a ≡ true

-- a row's multiplier in its ranges, behind the one before
pub record IsRangedLine (before : Option Line) (c : Line) : Type 0 where
  pub row : IsFrom 1 1535 c.row
  pub v : FitsFrom (pos 1) c.v
  pub order : row_follows before c.row ≡ true

abbrev pub IsLevel : Level → Type 0
IsLevel Resources = Unit {0}
IsLevel (Target j) = IsFrom 1 65535 j

-- the head of a fact: its two numbers and how many multipliers it has
pub record IsHeader (rho mu : ℤ) (k : ℕ) : Type 0 where
  pub first : FitsFrom (pos 1) rho
  pub second : FitsFrom (pos 0) mu
  pub count : k ≤ 2 ^ 127 - 1

abbrev pub IsFact : Fact → Type 0
IsFact (Plays rho mu marks) = IsHeader rho mu (length marks) × Rises IsMark None marks
IsFact (Cover rho mu lines) = IsHeader rho mu (length lines) × Rises IsRangedLine None lines
IsFact (Water level reason) = IsFraction level × IsLevel reason

pub record IsCap (c : Cap) : Type 0 where
  pub l : IsFrom 1 8 c.l
  pub v : (negsuc (2 ^ 63 - 1) ≤ℤ c.v) × (c.v ≤ℤ pos (2 ^ 63 - 1))
  pub count : length c.proof ≤ 65535
  pub proof : AllByRecursion IsFact c.proof

abbrev pub IsRangedBase : Option Fact → Type 0
IsRangedBase None = Unit {0}
IsRangedBase (Some f) = IsFact f

-- one node, whose parts are as given
abbrev pub IsLayer : (Tree → Type 0) → Tree-F Tree → Type 0
IsLayer P Tree-F.Unproved = Unit {0}
IsLayer P (Tree-F.Closed f) = IsFact f
IsLayer P (Tree-F.Split l base parts) = IsFrom 1 8 l × IsFrom 1 65535 (length parts) × IsRangedBase base × AllByRecursion P parts

-- a node with at most so many splits below one another
abbrev pub IsRangedNode : ℕ → Tree → Type 0
IsRangedNode zero t = IsLayer (λ _. ⊥) (out-Tree t)
IsRangedNode (suc left) t = IsLayer (IsRangedNode left) (out-Tree t)

pub record IsRangedFix (f : Fix) : Type 0 where
  pub first : IsFrom 1 8 f.first
  pub count : IsFrom 1 8 (length f.acts)
  pub acts : AllByRecursion (λ a. IsFrom 1 65535 a) f.acts

abbrev pub IsCause : Cause → Type 0
IsCause (causes.Nodes n) = IsFrom 1 (2 ^ 64 - 1) n
IsCause (causes.Pivots n fix) = IsFrom 1 (2 ^ 64 - 1) n × IsRangedFix fix
IsCause (causes.Looks n step fix) = IsFrom 1 (2 ^ 64 - 1) n × IsFrom 0 (2 ^ 64 - 1) step × IsRangedFix fix
IsCause (causes.Wide name wide step fix) = IsFrom 1 7 name × Fits wide.left × Fits wide.right × IsFrom 0 (2 ^ 64 - 1) step × IsRangedFix fix

abbrev pub IsEnding : Ending → Type 0
IsEnding Optimal = Unit {0}
IsEnding (Gap cause) = IsCause cause

-- a report whose numbers lie in their ranges and whose lists are in order
pub record IsReport (r : Report) : Type 0 where
  pub tickets : IsClaim r.tickets
  pub value : IsFraction r.value
  pub caps : AllByRecursion IsCap r.caps
  pub tree : IsRangedNode 8 r.tree
  pub upper : IsFraction r.upper
  pub ending : IsEnding r.ending

-- the bytes are the text of such a report
abbrev pub IsReportText : List ℕ → Type 0
IsReportText bytes = (r : Report) × (IsReport r × (report_text r ≡ bytes))
