use Rattle.std.proofs.Common.{ℕ, List, length, nat_lt, ap, ◌∙◌, rules, tests}
use Rattle.std.specs.List.{filter}
use Rattle.std.specs.Slice.Iter.{split_rest, split_done, split_callee}
use Rattle.std.proofs.lemmas.Iterator.Consumers.{YieldsList-end}
use Rattle.std.proofs.lemmas.Iterator.Splits.{YieldsList-from_slice_split}
use Rattle.dict_value.specs.Letters.{is_blank_byte}
use Rattle.child_io.specs.Words.{in_folder}
use Rattle.child_io.proofs.words.direct_words.Goals as goal

pub returns : goal.returns
returns c =
    let same = c.into_iter-part-iterator.ensures.into_iter_gives in
    let split = c.split-part-items.ensures in
    let t = YieldsList-end (YieldsList-from_slice_split _ is_blank_byte c.args.command.now (ap split_rest same ∙ split.rest) (ap split_done same ∙ split.done) (ap split_callee same ∙ split.closure) (λ x b q k. search (rules, tests))) c.loop-part.yielded _ c.loop-part.yielded_by _ _ c.in-None.is c.next.ensures.steps in
    c.loop-part.invariant ∙ ap (λ xs. in_folder c.args.folder.now (filter (λ (part : List ℕ). nat_lt 0 (length part)) xs)) t.0
