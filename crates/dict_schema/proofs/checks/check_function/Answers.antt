use Rattle.std.proofs.Common.{◌++◌, ap, subst}
use Rattle.dict_schema.specs.Judging.{IsFirstFault, AreClear}
use Rattle.dict_schema.specs.Parts.{column_names, argument_names}
use Rattle.dict_schema.specs.Table.{NamesWithin, counts, settings, keys, ranges, attributes, sources}
use Rattle.dict_schema.specs.Table.{function_counts, function_settings, arguments, function_source}
use Rattle.dict_schema.proofs.Judged.{fails, goes-on}
use Rattle.dict_schema.proofs.checks.check_function.Goals as goal

pub returns-in_err-judge_argument_names : goal.returns-in_err-judge_argument_names
returns-in_err-judge_argument_names c =
    goes-on (function_counts c.args.f.now) (NamesWithin (argument_names c.args.f.now) ++ (function_settings c.args.f.now ++ (arguments c.args.f.now ++ (function_source c.args.f.now)))) c.from_residual-in_err-judge_argument_names.result c.in_ok-judge_function_counts.ensures
    (fails (NamesWithin (argument_names c.args.f.now)) (function_settings c.args.f.now ++ (arguments c.args.f.now ++ (function_source c.args.f.now))) c.from_residual-in_err-judge_argument_names.result c.in_err-judge_argument_names.field-0.0 c.from_residual-in_err-judge_argument_names.ensures.1 c.in_err-judge_argument_names.ensures)

pub returns-in_err-judge_function_settings : goal.returns-in_err-judge_function_settings
returns-in_err-judge_function_settings c =
    goes-on (function_counts c.args.f.now) (NamesWithin (argument_names c.args.f.now) ++ (function_settings c.args.f.now ++ (arguments c.args.f.now ++ (function_source c.args.f.now)))) c.from_residual-in_err-judge_function_settings.result c.in_ok-judge_function_counts.ensures
    (goes-on (NamesWithin (argument_names c.args.f.now)) (function_settings c.args.f.now ++ (arguments c.args.f.now ++ (function_source c.args.f.now))) c.from_residual-in_err-judge_function_settings.result c.in_ok-judge_argument_names.ensures
    (fails (function_settings c.args.f.now) (arguments c.args.f.now ++ (function_source c.args.f.now)) c.from_residual-in_err-judge_function_settings.result c.in_err-judge_function_settings.field-0.0 c.from_residual-in_err-judge_function_settings.ensures.1 c.in_err-judge_function_settings.ensures))

pub returns-in_err-judge_arguments : goal.returns-in_err-judge_arguments
returns-in_err-judge_arguments c =
    goes-on (function_counts c.args.f.now) (NamesWithin (argument_names c.args.f.now) ++ (function_settings c.args.f.now ++ (arguments c.args.f.now ++ (function_source c.args.f.now)))) c.from_residual-in_err-judge_arguments.result c.in_ok-judge_function_counts.ensures
    (goes-on (NamesWithin (argument_names c.args.f.now)) (function_settings c.args.f.now ++ (arguments c.args.f.now ++ (function_source c.args.f.now))) c.from_residual-in_err-judge_arguments.result c.in_ok-judge_argument_names.ensures
    (goes-on (function_settings c.args.f.now) (arguments c.args.f.now ++ (function_source c.args.f.now)) c.from_residual-in_err-judge_arguments.result c.in_ok-judge_function_settings.ensures
    (fails (arguments c.args.f.now) (function_source c.args.f.now) c.from_residual-in_err-judge_arguments.result c.in_err-judge_arguments.field-0.0 c.from_residual-in_err-judge_arguments.ensures.1 c.in_err-judge_arguments.ensures)))

pub returns : goal.returns
returns c =
    goes-on (function_counts c.args.f.now) (NamesWithin (argument_names c.args.f.now) ++ (function_settings c.args.f.now ++ (arguments c.args.f.now ++ (function_source c.args.f.now)))) c.judge_function_source.result c.in_ok-judge_function_counts.ensures
    (goes-on (NamesWithin (argument_names c.args.f.now)) (function_settings c.args.f.now ++ (arguments c.args.f.now ++ (function_source c.args.f.now))) c.judge_function_source.result c.in_ok-judge_argument_names.ensures
    (goes-on (function_settings c.args.f.now) (arguments c.args.f.now ++ (function_source c.args.f.now)) c.judge_function_source.result c.in_ok-judge_function_settings.ensures
    (goes-on (arguments c.args.f.now) (function_source c.args.f.now) c.judge_function_source.result c.in_ok-judge_arguments.ensures
    (c.judge_function_source.ensures))))
