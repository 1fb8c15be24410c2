-- The text stands behind the head.
use Rattle.hashed_layout.specs.KeyBytes.{head_bytes, string_of}
use Rattle.hashed_layout.proofs.KeyLemmas.{head-missing, value-behind}
use Rattle.hashed_layout.proofs.key_bytes.behind_value.Goals as goal

pub returns-in_default : goal.returns-in_default
returns-in_default c =
    let v = c.args.value.now in
    head-missing c.args.bytes.now (head_bytes v) (string_of v) c.in_default.ensures

pub returns : goal.returns
returns c =
    let v = c.args.value.now in
    value-behind c.args.bytes.now (head_bytes v) (string_of v) c.in-Some.rest.now c.behind_string.result c.in-Some.ensures c.behind_string.ensures
