use Rattle.std.proofs.Common.{◌∙◌, sym}
use Rattle.dict_functions.specs.Refusals.{IsUnfitting}
use Rattle.dict_functions.proofs.FetchedCells.{no-parent}
use Rattle.dict_functions.proofs.keyed.fits_keyed.Goals as goal

pub returns-then-asks_hierarchy : goal.returns-then-asks_hierarchy
returns-then-asks_hierarchy c = λ other.
    IsUnfitting.hierarchy (sym c.asks_hierarchy.ensures ∙ c.if-asks_hierarchy.true, no-parent c.args.d.now c.requires.keyed)
