-- The text of a value has the value.
use Rattle.dict_value.proofs.Again.{read_again, has_type}
use Rattle.dict_value.proofs.writing.write_value.Goals as goal

pub push_text-written-requires : goal.push_text-written-requires
push_text-written-requires c = has_type c.args.t.now c.args.v.now c.requires.fits c.requires.some

pub returns-then-is_err-clause-again : goal.returns-then-is_err-clause-again
returns-then-is_err-clause-again c =
    read_again c.args.t.now.base c.args.v.now (has_type c.args.t.now c.args.v.now c.requires.fits c.requires.some)

pub returns-else-is_err-clause-again : goal.returns-else-is_err-clause-again
returns-else-is_err-clause-again c =
    read_again c.args.t.now.base c.args.v.now (has_type c.args.t.now c.args.v.now c.requires.fits c.requires.some)
