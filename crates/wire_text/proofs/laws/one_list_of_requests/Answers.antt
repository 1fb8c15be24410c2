use Rattle.wire_text.proofs.Hearing.{hears_once, hears_some}
use Rattle.wire_text.proofs.laws.one_list_of_requests.Goals as goal
use Rattle.wire_text.specs.declared.lines.TheConstants.{MOST_REQUESTS}

pub returns : goal.returns
returns c = record {
  some = λ closed. hears_some closed MOST_REQUESTS;
  one = λ closed. hears_once closed MOST_REQUESTS;
}
