use Rattle.std.proofs.Common.{Bor, List, ℕ, ◌∙◌, Some, inl}
use Rattle.csv.specs.Records.{fields_of}
use Rattle.row_text.proofs.CsvReads.{fresh, not-first, not-second, only-first}
use Rattle.row_text.proofs.csv_row.one_record.Goals as goal

pub returns-then-not-branch-clause-ok : goal.returns-then-not-branch-clause-ok
returns-then-not-branch-clause-ok c texts is =
    let made = c.from_reader-reader.ensures in
    let a = c.from_reader-reader.result in
    let f = fresh (λ (s : Bor (List ℕ)). Some s.now) a _ c.new.result c.has_headers.result.now c.flexible.result.now c.new.ensures.config c.new.ensures.trim c.has_headers.ensures c.flexible.ensures
    made.config made.has_headers made.trim made.headers made.state made.source in
    let read = rw c.if-not-branch.true at (c.in_ok-read_byte_record.ensures.reads f.untrimmed f.ready) in
    not-first (λ (s : Bor (List ℕ)). Some s.now) a c.read_byte_record.new.self c.args.line.now (fields_of c.read_byte_record.new.row) texts f read is

pub returns-then-branch-clause-ok : goal.returns-then-branch-clause-ok
returns-then-branch-clause-ok c texts is =
    let made = c.from_reader-reader.ensures in
    let a = c.from_reader-reader.result in
    let b = c.read_byte_record.new.self in
    let f = fresh (λ (s : Bor (List ℕ)). Some s.now) a _ c.new.result c.has_headers.result.now c.flexible.result.now c.new.ensures.config c.new.ensures.trim c.has_headers.ensures c.flexible.ensures
    made.config made.has_headers made.trim made.headers made.state made.source in
    let read = rw c.if-not-branch.false at (c.in_ok-read_byte_record.ensures.reads f.untrimmed f.ready) in
    let next = rw c.if-branch.true at (c.in_ok-read_byte_record-2.ensures.reads (read.3 ∙ f.untrimmed) (inl (c.in_ok-read_byte_record.ensures.ready f.untrimmed))) in
    not-second (λ (s : Bor (List ℕ)). Some s.now) a b c.read_byte_record-2.new.self c.args.line.now (fields_of c.read_byte_record.new.row) (fields_of c.read_byte_record-2.new.row) texts f read next is

pub returns-clause-ok : goal.returns-clause-ok
returns-clause-ok c =
    let made = c.from_reader-reader.ensures in
    let a = c.from_reader-reader.result in
    let b = c.read_byte_record.new.self in
    let f = fresh (λ (s : Bor (List ℕ)). Some s.now) a _ c.new.result c.has_headers.result.now c.flexible.result.now c.new.ensures.config c.new.ensures.trim c.has_headers.ensures c.flexible.ensures
    made.config made.has_headers made.trim made.headers made.state made.source in
    let read = rw c.if-not-branch.false at (c.in_ok-read_byte_record.ensures.reads f.untrimmed f.ready) in
    let next = rw c.if-branch.false at (c.in_ok-read_byte_record-2.ensures.reads (read.3 ∙ f.untrimmed) (inl (c.in_ok-read_byte_record.ensures.ready f.untrimmed))) in
    only-first (λ (s : Bor (List ℕ)). Some s.now) a b c.read_byte_record-2.new.self c.args.line.now (fields_of c.read_byte_record.new.row) (fields_of c.read_byte_record-2.new.row) f read next
