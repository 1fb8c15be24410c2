-- What is made of the answers of the runtime, by what its readers and writers say of their bytes.
use Rattle.std.specs.Prelude.{ℕ, List, take, Option, Result, Ok, Err}
use Rattle.std.specs.Io.KnownBytes.{Keeps, Consumes, IsAtEnd, Appends}
use Rattle.dict_io.specs.Outside.{count_up}
use Rattle.dict_io.specs.declared.outside.Got.{Got}
use Rattle.dict_io.specs.declared.outside.Got.TheVariants.{Bytes as GotBytes, End as GotEnd, Failed as GotFailed}
use Rattle.dict_io.specs.declared.outside.Put.{Put}
use Rattle.dict_io.specs.declared.outside.Put.TheVariants.{Bytes as PutBytes, Failed as PutFailed}
use Rattle.dict_io.specs.declared.outside.Failed.{Failed}

-- the bytes that a read gave were taken from the reader; it is at its end, or it failed and has all that it had
abbrev pub ReadsFrom : Option (List ℕ) → Option (List ℕ) → Got → List ℕ → Type 0
ReadsFrom old new (GotBytes n) buf = Consumes old new (take n buf)
ReadsFrom old new GotEnd buf = IsAtEnd old
ReadsFrom old new GotFailed buf = Keeps old new

-- the bytes that a write took went into the writer; where it failed none did
abbrev pub WritesTo : Option (List ℕ) → Option (List ℕ) → Put → List ℕ → Type 0
WritesTo old new (PutBytes n) piece = Appends old new (take n piece)
WritesTo old new PutFailed piece = Keeps old new

-- the count of a clock's faults after a reading of its seconds
abbrev pub faults_after : Result ℕ Failed → ℕ → ℕ
faults_after (Ok seconds) faults = faults
faults_after (Err _) faults = count_up faults
