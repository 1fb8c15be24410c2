use Rattle.std.proofs.Common.{◌≡◌, ◌∙◌, sym}
use Rattle.dict_version.specs.Lookups.{lookup_by}
use Rattle.dict_version.specs.declared.lookup.LookupBy.TheVariants as by
use Rattle.dict_version.proofs.index.Index.build.Goals as goal

pub returns-in-SmallNumber-clause-index : goal.returns-in-SmallNumber-clause-index
returns-in-SmallNumber-clause-index g c =
    let is : lookup_by c.args.d.now.layout ≡ by.SmallNumber c.in-SmallNumber.limit = sym c.lookup_by.ensures ∙ c.in-SmallNumber.is in
    rw is (c.small_numbers.ensures.index c.args.d.now)

pub returns-in_ok-numbers-in-Number-clause-index : goal.returns-in_ok-numbers-in-Number-clause-index
returns-in_ok-numbers-in-Number-clause-index g c =
    let is : lookup_by c.args.d.now.layout ≡ by.Number = sym c.lookup_by.ensures ∙ c.in-Number.is in
    rw is (c.in_ok-numbers-in-Number.ensures c.args.d.now)

pub returns-in-Address-clause-index : goal.returns-in-Address-clause-index
returns-in-Address-clause-index g c =
    let is : lookup_by c.args.d.now.layout ≡ by.Address = sym c.lookup_by.ensures ∙ c.in-Address.is in
    rw is (c.prefixes.ensures.index c.args.d.now)
