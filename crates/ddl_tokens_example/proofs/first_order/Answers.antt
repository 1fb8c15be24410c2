use Rattle.std.proofs.Common.{List, subst}
use Rattle.ddl_tokens.specs.Reading.{Gives}
use Rattle.ddl_tokens.specs.Tokens.{Token}
use Rattle.ddl_tokens.proofs.Laws.{is_found, is_only, is_told_least}
use Rattle.ddl_tokens_example.specs.Reading.{order_at}
use Rattle.ddl_tokens_example.proofs.OrderLaws.{order_law}
use Rattle.ddl_tokens_example.proofs.first_order.Goals as goal

pub returns-clause-found : goal.returns-clause-found
returns-clause-found c tokens a =
    is_found order_law tokens _ c.order.result
    (subst (λ (ts : List Token). Gives (λ o. o) c.order.result c.order.new.r (order_at ts)) (c.new-reader.ensures.only tokens a) c.order.ensures.value)

pub returns-clause-only : goal.returns-clause-only
returns-clause-only c tokens own rest order a parts fits stops =
    is_only order_law tokens _ c.order.result
    (subst (λ (ts : List Token). Gives (λ o. o) c.order.result c.order.new.r (order_at ts)) (c.new-reader.ensures.only tokens a) c.order.ensures.value)
    own rest order parts fits stops

pub returns-clause-least : goal.returns-clause-least
returns-clause-least c tokens a =
    is_told_least order_law tokens _ c.order.result
    (subst (λ (ts : List Token). Gives (λ o. o) c.order.result c.order.new.r (order_at ts)) (c.new-reader.ensures.only tokens a) c.order.ensures.value)
