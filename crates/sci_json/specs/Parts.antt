-- Packets, states, operations and entries as members of JSON objects.
use Rattle.std.specs.Prelude.{ℕ, List, [], ◌++◌, codes, Option, Some, None}
use Rattle.json.specs.Token.{Token}
use Rattle.sci_words.specs.declared.operation.{Act.{Act, TheVariants.{Load, Store, Lock}}, LockOp.{LockOp}}
use Rattle.sci_words.specs.declared.operation.LockOp.TheVariants.{MaskSwap, CompareSwap, FetchAdd, BoundedAdd, WrapAdd}
use Rattle.sci_words.specs.declared.operation.{Op.{Op}, Reply.{Reply, TheVariants.{Stored, Got}}}
use Rattle.sci_words.specs.declared.stamped.Stamped.{Stamped}
use Rattle.sci_packets.specs.declared.body.Body.{Body}
use Rattle.sci_packets.specs.declared.body.Body.TheVariants.{Roll, Wback, Setback, Mdata, Mgone, Cdata, Purged, Fdata}
use Rattle.sci_packets.specs.Table.{command_name, command_of}
use Rattle.sci_history.specs.declared.entry.Entry.{Entry}
use Rattle.sci_cache.specs.Cache.{Letter}
use Rattle.sci_cache.specs.State.{CacheState, backward_of, contents_of, forward_of, is_sent, state_name}
use Rattle.sci_home.specs.{declared.state.HomeState.{HomeState}, Serving.{current_of, head_of, home_name}}
use Rattle.sci_text.specs.Operation.{act_word}
use Rattle.sci_json.specs.Members.{flag_member, null_member, number_member, optional_member, text_member, word_member, words_member}

-- ---- packets

unfoldable pub identifier_members : Option ℕ → List Token
identifier_members None = null_member (codes "id")
identifier_members (Some id) = number_member (codes "id") id

unfoldable pub contents_members : Stamped → List Token
contents_members contents = number_member (codes "version") contents.version ++ words_member (codes "words") contents.line

-- the identifier if the command uses it, and the contents if it carries them
unfoldable pub said_members : Body → List Token
said_members (Roll forward) = identifier_members forward
said_members (Wback contents) = contents_members contents
said_members (Setback backward) = identifier_members (Some backward)
said_members (Mdata contents) = contents_members contents
said_members (Mgone old_head) = identifier_members (Some old_head)
said_members (Cdata contents) = contents_members contents
said_members (Purged forward) = identifier_members forward
said_members (Fdata old_head contents) = identifier_members old_head ++ contents_members contents
said_members _ = []

unfoldable pub packet_members : Letter → List Token
packet_members letter =
    text_member (codes "command") (command_name (command_of letter.body))
    ++ (number_member (codes "to") letter.target
    ++ (number_member (codes "from") letter.source
    ++ (number_member (codes "control") letter.control ++ (number_member (codes "line") letter.line ++ said_members letter.body))))

-- ---- states

-- the version of contents, if there are any
unfoldable pub version_member : Option Stamped → List Token
version_member None = []
version_member (Some contents) = number_member (codes "version") contents.version

-- a cache's state: its name, its neighbours, whether its request was sent, and the version of its contents
unfoldable pub state_members : CacheState → List Token
state_members state =
    text_member (codes "state") (state_name state)
    ++ (optional_member (codes "forward") (forward_of state)
    ++ (optional_member (codes "backward") (backward_of state) ++ (flag_member (codes "sent") (is_sent state) ++ version_member (contents_of state))))

-- a home's state: its name, the head of the list, and the version of its contents
unfoldable pub home_members : HomeState → List Token
home_members state = text_member (codes "state") (home_name state) ++ (optional_member (codes "head") (head_of state) ++ version_member (current_of state))

-- ---- operations and entries

unfoldable pub both_members : ℕ → ℕ → List Token
both_members arg datum = word_member (codes "arg") arg ++ word_member (codes "datum") datum

unfoldable pub lock_members : LockOp → List Token
lock_members (MaskSwap arg datum) = both_members arg datum
lock_members (CompareSwap arg datum) = both_members arg datum
lock_members (FetchAdd datum) = word_member (codes "datum") datum
lock_members (BoundedAdd arg datum) = both_members arg datum
lock_members (WrapAdd arg datum) = both_members arg datum

unfoldable pub operand_members : Act → List Token
operand_members Load = []
operand_members (Store word) = word_member (codes "datum") word
operand_members (Lock lock) = lock_members lock

unfoldable pub operation_members : Op → List Token
operation_members op = text_member (codes "operation") (act_word op.act)
    ++ (number_member (codes "line") op.line ++ (number_member (codes "word") op.word ++ operand_members op.act))

unfoldable pub reply_member : Reply → List Token
reply_member Stored = null_member (codes "reply")
reply_member (Got word) = word_member (codes "reply") word

unfoldable pub entry_members : Entry → List Token
entry_members entry =
    number_member (codes "node") entry.node
    ++ (number_member (codes "serial") entry.serial
    ++ (operation_members entry.op ++ (reply_member entry.reply ++ number_member (codes "version") entry.version)))
