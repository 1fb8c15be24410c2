-- Replies from the texts of their lines.
use Rattle.std.specs.Prelude.{◌≡◌, ◌∷◌, [], List, Bool, true, false}
use Rattle.wire_text.specs.declared.reply.Line.{Line}
use Rattle.wire_text.specs.declared.reply.Mark.{Mark}
use Rattle.wire_text.specs.declared.reply.Reply.{Reply}
use Rattle.wire_text.specs.declared.reply.Reply.TheVariants.{One, Many}

-- a block has its lines under one mark, and a single lookup the text of its one line
abbrev pub IsReplyOf : Bool → Mark → List Line → Reply → Type 0
IsReplyOf true mark lines reply = reply ≡ Many mark lines
IsReplyOf false mark (line ∷ []) reply = reply ≡ One mark line.text
IsReplyOf false mark _ reply = ⊥
