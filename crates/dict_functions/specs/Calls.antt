-- Calls of functions: the rows of arguments of a request, and the answer from the values that were given for them.
use Rattle.std.specs.Prelude.{◌≡◌, List, Result, Ok, Err, map}
use Rattle.std.specs.List.{AllZip}
use Rattle.dict_schema.specs.declared.definition.FunctionDef.{FunctionDef}
use Rattle.dict_value.specs.Values.{FitsColumn}
use Rattle.dict_value.specs.declared.value.AttrType.{AttrType}
use Rattle.dict_value.specs.declared.value.Value.{Value}
use Rattle.row_text.specs.Written.{printed}
use Rattle.wire_text.specs.declared.reply.Line.{Line}
use Rattle.wire_text.specs.declared.reply.Mark.TheVariants as mark
use Rattle.wire_text.specs.declared.reply.Reply.{Reply}
use Rattle.wire_text.specs.declared.reply.ReplyFault.{ReplyFault}
use Rattle.wire_text.specs.declared.reply.ReplyFault.TheVariants as fault
use Rattle.wire_text.specs.declared.request.Asked.{Asked}
use Rattle.wire_text.specs.declared.request.Verb.TheVariants as verb
use Rattle.dict_functions.specs.Asking.{IsAsked}
use Rattle.dict_functions.specs.Replies.{IsReplyOf}
use Rattle.dict_functions.specs.Sending.{AreUnsent, WriteRows}

-- a call asks a function
abbrev pub IsCall : Asked → Type 0
IsCall q = IsAsked q × (q.verb ≡ verb.Call)

-- the types of the arguments, in their order
abbrev pub argument_types : FunctionDef → List AttrType
argument_types f = map (λ argument. argument.ty) f.args

-- The rows of arguments of a call, or the first reason why it is refused: a line has none, or a row is too long.
abbrev pub AreCallArguments : FunctionDef → Asked → Result (List (List Value)) ReplyFault → Type 0
AreCallArguments f q (Ok rows) = WriteRows f.source.format (argument_types f) q.lines rows
AreCallArguments f q (Err e) = AreUnsent f.source.format (argument_types f) q.lines fault.BadArgument e

-- one value for each row of arguments, in order, of the type that the function returns
abbrev pub AreGiven : FunctionDef → List (List Value) → List Value → Type 0
AreGiven f rows values = AllZip (λ row v. FitsColumn f.returns v) rows values

-- the line of a value; it tells no moment
pub record IsCallLine (f : FunctionDef) (v : Value) (line : Line) : Type 0 where
  pub moment : line.moment ≡ 0
  pub text : line.text ≡ printed f.returns.base v

-- the answer from the values that were given for the arguments of a call
abbrev pub AnswersCall : FunctionDef → Asked → List Value → Reply → Type 0
AnswersCall f q values reply =
    (lines : List Line) × AllZip (IsCallLine f) values lines × IsReplyOf q.block mark.Function lines reply
