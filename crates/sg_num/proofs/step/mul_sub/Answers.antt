use Rattle.std.proofs.Common.{rules, ◌≡◌}
use Rattle.sg_num.specs.Exact.{exact_mul_sub}
use Rattle.sg_num.proofs.Steps.{IfOk-exact_mul_sub}
use Rattle.sg_num.proofs.step.mul_sub.Goals as goal

pub returns-clause-value : goal.returns-clause-value
returns-clause-value c =
    let e : c.less.result ≡ exact_mul_sub c.args.a c.args.p c.args.q c.args.b = search rules in
    IfOk-exact_mul_sub c.args.a c.args.p c.args.q c.args.b c.less.result e
