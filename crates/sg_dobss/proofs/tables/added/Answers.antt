use Rattle.std.specs.Int.{w64}
use Rattle.std.specs.Prelude.{FitsSigned, ◌+ℤ◌, ◌*ℤ◌}
use Rattle.std.proofs.lemmas.Int.{to_z-of_z}
use Rattle.sg_dobss.proofs.Adding.{added-fits, product-fits, shifted-fits}
use Rattle.sg_dobss.proofs.tables.added.Goals as goal

pub overflow_mul-product : goal.overflow_mul-product
overflow_mul-product c =
    let a = c.args in
    let fp : FitsSigned w64 a.prior = c.ranges.prior in
    let fy : FitsSigned w64 a.pay = c.ranges.pay in
    let fs : FitsSigned w64 a.shift = c.ranges.shift in
    let sum : FitsSigned w64 (a.pay +ℤ a.shift) = shifted-fits a.cost a.prior a.shift a.pay c.requires.cost c.requires.prior c.requires.shift c.requires.pay in
    simp to_z-of_z (product-fits a.cost a.prior a.shift a.pay c.requires.cost c.requires.prior c.requires.shift c.requires.pay)

pub overflow_add-result : goal.overflow_add-result
overflow_add-result c =
    let a = c.args in
    let fc : FitsSigned w64 a.cost = c.ranges.cost in
    let fp : FitsSigned w64 a.prior = c.ranges.prior in
    let fy : FitsSigned w64 a.pay = c.ranges.pay in
    let fs : FitsSigned w64 a.shift = c.ranges.shift in
    let sum : FitsSigned w64 (a.pay +ℤ a.shift) = shifted-fits a.cost a.prior a.shift a.pay c.requires.cost c.requires.prior c.requires.shift c.requires.pay in
    let product : FitsSigned w64 (a.prior *ℤ (a.pay +ℤ a.shift)) = product-fits a.cost a.prior a.shift a.pay c.requires.cost c.requires.prior c.requires.shift c.requires.pay in
    simp to_z-of_z (added-fits a.cost a.prior a.shift a.pay c.requires.cost c.requires.prior c.requires.shift c.requires.pay)

pub returns : goal.returns
returns c =
    let a = c.args in
    let fc : FitsSigned w64 a.cost = c.ranges.cost in
    let fp : FitsSigned w64 a.prior = c.ranges.prior in
    let fy : FitsSigned w64 a.pay = c.ranges.pay in
    let fs : FitsSigned w64 a.shift = c.ranges.shift in
    let sum : FitsSigned w64 (a.pay +ℤ a.shift) = shifted-fits a.cost a.prior a.shift a.pay c.requires.cost c.requires.prior c.requires.shift c.requires.pay in
    let product : FitsSigned w64 (a.prior *ℤ (a.pay +ℤ a.shift)) = product-fits a.cost a.prior a.shift a.pay c.requires.cost c.requires.prior c.requires.shift c.requires.pay in
    let all : FitsSigned w64 (a.cost +ℤ (a.prior *ℤ (a.pay +ℤ a.shift))) = added-fits a.cost a.prior a.shift a.pay c.requires.cost c.requires.prior c.requires.shift c.requires.pay in
    simp to_z-of_z
