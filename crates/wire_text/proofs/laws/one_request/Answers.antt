use Rattle.wire_text.proofs.Answering.{request_once}
use Rattle.wire_text.proofs.laws.one_request.Goals as goal

pub returns : goal.returns
returns c = request_once
