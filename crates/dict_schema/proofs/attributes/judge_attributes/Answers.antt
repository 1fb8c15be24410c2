use Rattle.std.proofs.Common.{length}
use Rattle.dict_schema.specs.declared.fault.DefFault.TheVariants as fault
use Rattle.dict_schema.specs.Judging.{Numbered}
use Rattle.dict_schema.specs.Table.{IsBadParent, IsBadDefault}
use Rattle.dict_schema.proofs.Judged.{fails, goes-on}
use Rattle.dict_schema.proofs.attributes.judge_attributes.Goals as goal

pub returns-in_err-judge_each : goal.returns-in_err-judge_each
returns-in_err-judge_each c =
    fails (Numbered fault.HierarchyType (length c.args.d.now.columns) (IsBadParent c.args.d.now)) (Numbered fault.BadDefault (length c.args.d.now.columns) (IsBadDefault c.args.d.now)) c.from_residual.result c.in_err-judge_each.field-0.0 c.from_residual.ensures.1 c.in_err-judge_each.ensures

pub returns : goal.returns
returns c =
    goes-on (Numbered fault.HierarchyType (length c.args.d.now.columns) (IsBadParent c.args.d.now)) (Numbered fault.BadDefault (length c.args.d.now.columns) (IsBadDefault c.args.d.now)) c.judge_each-2.result c.in_ok-judge_each.ensures c.judge_each-2.ensures
