use Rattle.std.proofs.Common.{◌≡◌, length, drop, take, Some, ap, arith}
use Rattle.std.proofs.lemmas.Grind.{common_steps}
use Rattle.dict_io.proofs.Known.{read-copied, tail-drop}
use Rattle.dict_io.proofs.memory.MemorySourceSource.read.Goals as goal

pub returns-clause-bytes : goal.returns-clause-bytes
returns-clause-bytes c =
    let n = c.min-count.result in
    let e : c.copy_from_slice.new.self ≡ take n (drop c.args.self.now.at c.args.self.now.text) =
    rw (c.copy_from_slice.ensures.after, c.as_slice-2.ensures, tail-drop) in
    let l : length c.copy_from_slice.new.self ≡ n = grind (arith, common_steps, c.copy_from_slice.ensures.len) in
    ap Some (read-copied _ _ _ c.args.self.now.at n e l)
