use Rattle.std.proofs.Common.{◌++◌, ap, subst}
use Rattle.dict_schema.specs.Judging.{IsFirstFault, AreClear}
use Rattle.dict_schema.specs.Parts.{column_names, argument_names}
use Rattle.dict_schema.specs.Table.{NamesWithin, counts, settings, keys, ranges, attributes, sources}
use Rattle.dict_schema.specs.Table.{function_counts, function_settings, arguments, function_source}
use Rattle.dict_schema.proofs.Judged.{fails, goes-on}
use Rattle.dict_schema.proofs.checks.check.Goals as goal

pub returns-in_err-judge_column_names : goal.returns-in_err-judge_column_names
returns-in_err-judge_column_names c =
    goes-on (counts c.args.d.now) (NamesWithin (column_names c.args.d.now) ++ (settings c.args.d.now ++ (keys c.args.d.now ++ (ranges c.args.d.now ++ (attributes c.args.d.now ++ (sources c.args.d.now)))))) c.from_residual-in_err-judge_column_names.result c.in_ok-judge_counts.ensures
    (fails (NamesWithin (column_names c.args.d.now)) (settings c.args.d.now ++ (keys c.args.d.now ++ (ranges c.args.d.now ++ (attributes c.args.d.now ++ (sources c.args.d.now))))) c.from_residual-in_err-judge_column_names.result c.in_err-judge_column_names.field-0.0 c.from_residual-in_err-judge_column_names.ensures.1 c.in_err-judge_column_names.ensures)

pub returns-in_err-judge_settings : goal.returns-in_err-judge_settings
returns-in_err-judge_settings c =
    goes-on (counts c.args.d.now) (NamesWithin (column_names c.args.d.now) ++ (settings c.args.d.now ++ (keys c.args.d.now ++ (ranges c.args.d.now ++ (attributes c.args.d.now ++ (sources c.args.d.now)))))) c.from_residual-in_err-judge_settings.result c.in_ok-judge_counts.ensures
    (goes-on (NamesWithin (column_names c.args.d.now)) (settings c.args.d.now ++ (keys c.args.d.now ++ (ranges c.args.d.now ++ (attributes c.args.d.now ++ (sources c.args.d.now))))) c.from_residual-in_err-judge_settings.result c.in_ok-judge_column_names.ensures
    (fails (settings c.args.d.now) (keys c.args.d.now ++ (ranges c.args.d.now ++ (attributes c.args.d.now ++ (sources c.args.d.now)))) c.from_residual-in_err-judge_settings.result c.in_err-judge_settings.field-0.0 c.from_residual-in_err-judge_settings.ensures.1 c.in_err-judge_settings.ensures))

pub returns-in_err-judge_keys : goal.returns-in_err-judge_keys
returns-in_err-judge_keys c =
    goes-on (counts c.args.d.now) (NamesWithin (column_names c.args.d.now) ++ (settings c.args.d.now ++ (keys c.args.d.now ++ (ranges c.args.d.now ++ (attributes c.args.d.now ++ (sources c.args.d.now)))))) c.from_residual-in_err-judge_keys.result c.in_ok-judge_counts.ensures
    (goes-on (NamesWithin (column_names c.args.d.now)) (settings c.args.d.now ++ (keys c.args.d.now ++ (ranges c.args.d.now ++ (attributes c.args.d.now ++ (sources c.args.d.now))))) c.from_residual-in_err-judge_keys.result c.in_ok-judge_column_names.ensures
    (goes-on (settings c.args.d.now) (keys c.args.d.now ++ (ranges c.args.d.now ++ (attributes c.args.d.now ++ (sources c.args.d.now)))) c.from_residual-in_err-judge_keys.result c.in_ok-judge_settings.ensures
    (fails (keys c.args.d.now) (ranges c.args.d.now ++ (attributes c.args.d.now ++ (sources c.args.d.now))) c.from_residual-in_err-judge_keys.result c.in_err-judge_keys.field-0.0 c.from_residual-in_err-judge_keys.ensures.1 c.in_err-judge_keys.ensures)))

pub returns-in_err-judge_ranges : goal.returns-in_err-judge_ranges
returns-in_err-judge_ranges c =
    goes-on (counts c.args.d.now) (NamesWithin (column_names c.args.d.now) ++ (settings c.args.d.now ++ (keys c.args.d.now ++ (ranges c.args.d.now ++ (attributes c.args.d.now ++ (sources c.args.d.now)))))) c.from_residual-in_err-judge_ranges.result c.in_ok-judge_counts.ensures
    (goes-on (NamesWithin (column_names c.args.d.now)) (settings c.args.d.now ++ (keys c.args.d.now ++ (ranges c.args.d.now ++ (attributes c.args.d.now ++ (sources c.args.d.now))))) c.from_residual-in_err-judge_ranges.result c.in_ok-judge_column_names.ensures
    (goes-on (settings c.args.d.now) (keys c.args.d.now ++ (ranges c.args.d.now ++ (attributes c.args.d.now ++ (sources c.args.d.now)))) c.from_residual-in_err-judge_ranges.result c.in_ok-judge_settings.ensures
    (goes-on (keys c.args.d.now) (ranges c.args.d.now ++ (attributes c.args.d.now ++ (sources c.args.d.now))) c.from_residual-in_err-judge_ranges.result c.in_ok-judge_keys.ensures
    (fails (ranges c.args.d.now) (attributes c.args.d.now ++ (sources c.args.d.now)) c.from_residual-in_err-judge_ranges.result c.in_err-judge_ranges.field-0.0 c.from_residual-in_err-judge_ranges.ensures.1 c.in_err-judge_ranges.ensures))))

pub returns-in_err-judge_attributes : goal.returns-in_err-judge_attributes
returns-in_err-judge_attributes c =
    goes-on (counts c.args.d.now) (NamesWithin (column_names c.args.d.now) ++ (settings c.args.d.now ++ (keys c.args.d.now ++ (ranges c.args.d.now ++ (attributes c.args.d.now ++ (sources c.args.d.now)))))) c.from_residual-in_err-judge_attributes.result c.in_ok-judge_counts.ensures
    (goes-on (NamesWithin (column_names c.args.d.now)) (settings c.args.d.now ++ (keys c.args.d.now ++ (ranges c.args.d.now ++ (attributes c.args.d.now ++ (sources c.args.d.now))))) c.from_residual-in_err-judge_attributes.result c.in_ok-judge_column_names.ensures
    (goes-on (settings c.args.d.now) (keys c.args.d.now ++ (ranges c.args.d.now ++ (attributes c.args.d.now ++ (sources c.args.d.now)))) c.from_residual-in_err-judge_attributes.result c.in_ok-judge_settings.ensures
    (goes-on (keys c.args.d.now) (ranges c.args.d.now ++ (attributes c.args.d.now ++ (sources c.args.d.now))) c.from_residual-in_err-judge_attributes.result c.in_ok-judge_keys.ensures
    (goes-on (ranges c.args.d.now) (attributes c.args.d.now ++ (sources c.args.d.now)) c.from_residual-in_err-judge_attributes.result c.in_ok-judge_ranges.ensures
    (fails (attributes c.args.d.now) (sources c.args.d.now) c.from_residual-in_err-judge_attributes.result c.in_err-judge_attributes.field-0.0 c.from_residual-in_err-judge_attributes.ensures.1 c.in_err-judge_attributes.ensures)))))

pub returns : goal.returns
returns c =
    goes-on (counts c.args.d.now) (NamesWithin (column_names c.args.d.now) ++ (settings c.args.d.now ++ (keys c.args.d.now ++ (ranges c.args.d.now ++ (attributes c.args.d.now ++ (sources c.args.d.now)))))) c.judge_source.result c.in_ok-judge_counts.ensures
    (goes-on (NamesWithin (column_names c.args.d.now)) (settings c.args.d.now ++ (keys c.args.d.now ++ (ranges c.args.d.now ++ (attributes c.args.d.now ++ (sources c.args.d.now))))) c.judge_source.result c.in_ok-judge_column_names.ensures
    (goes-on (settings c.args.d.now) (keys c.args.d.now ++ (ranges c.args.d.now ++ (attributes c.args.d.now ++ (sources c.args.d.now)))) c.judge_source.result c.in_ok-judge_settings.ensures
    (goes-on (keys c.args.d.now) (ranges c.args.d.now ++ (attributes c.args.d.now ++ (sources c.args.d.now))) c.judge_source.result c.in_ok-judge_keys.ensures
    (goes-on (ranges c.args.d.now) (attributes c.args.d.now ++ (sources c.args.d.now)) c.judge_source.result c.in_ok-judge_ranges.ensures
    (goes-on (attributes c.args.d.now) (sources c.args.d.now) c.judge_source.result c.in_ok-judge_attributes.ensures
    (c.judge_source.ensures))))))
