use Rattle.std.proofs.Common.{List, ℕ, subst}
use Rattle.child_io.specs.Words.{IsFolder}
use Rattle.dictd.proofs.once.serve_items.Goals as goal

pub returns : goal.returns
returns g c = (
  c.folder_of-folder.result.now,
  subst (λ (path : List ℕ). IsFolder path c.folder_of-folder.result.now) c.as_bytes.ensures.value c.folder_of-folder.ensures,
  c.serve_in.ensures,
)
