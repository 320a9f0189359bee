-- What the calls that give a packet to a node answer.
use Rattle.std.specs.Prelude.{◌≡◌, ◌<◌, ◌%◌, ◌==◌, ◌∷◌, [], ℕ, Bool, true, if◌then◌else◌, List, take, Option, Some, None}
use Rattle.sci_packets.specs.{declared.packet.Packet.{Packet}, Fault.{fault_of}, Spelling.{Spells}}
use Rattle.sci_cache.specs.Cache.{Letter, letter_of, line_of}
use Rattle.sci_core.specs.WellFormed.{BodyNamesNodes}
use Rattle.sci_core.specs.Node.{NodeOf, IsForNode, IsServable, node_accepting, node_refusing, node_serving}
use Rattle.sci_c_values.specs.declared.status.TheConstants.{SCI_BAD_IDENTIFIER, SCI_BAD_OFFSET, SCI_FULL, SCI_NOT_ENABLED, SCI_OK, SCI_RANGE}
use Rattle.sci_c_values.specs.declared.status.TheConstants.{SCI_SHORT, SCI_UNKNOWN_COMMAND}
use Rattle.sci_policy.specs.Policy.{PolicyOf, decided}
use Rattle.sci_c_values.specs.Want.{decision_number}
use Rattle.sci_c.specs.declared.controller.Controller.{Controller}
use Rattle.sci_c.specs.declared.{taking.Taking.{Taking, TheVariants.{Serve, Refuse, Accept}}, thing.Thing.{Thing}}
use Rattle.sci_c.specs.{Asked.{told_asked}, Calls.{IsChange, IsLook}, Kinds.{ChangesBy, On, node_in}, Packet.{fault_status}}

-- the sender of a packet is a node of the machine, and so is the node that the packet names, if it names one
pub record IsOfMachine (node : NodeOf) (letter : Letter) : Type 0 where
  pub source : letter.source < node.cache.nodes
  pub names : BodyNamesNodes node.cache.nodes letter.body

-- a request that the node may serve, and an answer that it may accept
abbrev pub IsRequestFor : NodeOf → Letter → Type 0
IsRequestFor node letter = IsOfMachine node letter × IsServable node letter

abbrev pub IsAnswerFor : NodeOf → Letter → Type 0
IsAnswerFor node letter = IsOfMachine node letter × IsForNode node letter

abbrev pub is_or_none : Option ℕ → ℕ → Bool
is_or_none None n = true
is_or_none (Some asked) n = asked == n

-- no other node was asked than the one that sends the answer
abbrev pub is_from_asked : NodeOf → Letter → Bool
is_from_asked node answer = is_or_none (told_asked (answer.line % node.cache.nodes) (line_of node.cache answer.line).state) answer.source

-- the node after an answer of the node that it asked, or none if it doesn't await it
abbrev pub accepting_asked : NodeOf → Letter → Option NodeOf
accepting_asked node answer = if is_from_asked node answer then node_accepting node answer else None

-- the packets that may be given to a node for it
abbrev pub IsTakable : Taking → NodeOf → Letter → Type 0
IsTakable Serve node letter = IsRequestFor node letter
IsTakable Refuse node letter = IsRequestFor node letter
IsTakable Accept node letter = IsAnswerFor node letter

-- the node after it, or none if it doesn't take the packet
abbrev pub node_taking : Taking → NodeOf → Letter → Option NodeOf
node_taking Serve node letter = node_serving node letter
node_taking Refuse node letter = node_refusing node letter
node_taking Accept node letter = accepting_asked node letter

-- the first bytes are those of a packet, of which this holds
pub record Begins (bytes : List ℕ) (P : Letter → Type 0) : Type 0 where
  pub packet : Packet
  pub used : ℕ
  pub spells : Spells packet (take used bytes)
  pub holds : P (letter_of packet)

-- a request that was served or refused is noted
abbrev pub noting : Letter → PolicyOf → PolicyOf
noting letter policy = record policy { served = Some letter.source }

abbrev pub noting_none : Letter → PolicyOf → PolicyOf
noting_none letter policy = policy

abbrev pub policy_noting : Taking → Letter → PolicyOf → PolicyOf
policy_noting Serve = noting
policy_noting Refuse = noting
policy_noting Accept = noting_none

-- the node takes a packet that may be given to it, and its policy notes what it took
pub record HasTaken (may : NodeOf → Letter → Type 0) (taking : NodeOf → Letter → Option NodeOf) (noting : Letter → PolicyOf → PolicyOf)
    (before after : Controller) (letter : Letter) : Type 0 where
  pub may_take : may before.node letter
  pub taken : taking before.node letter ≡ Some after.node
  pub noted : after.policy ≡ noting letter before.policy

-- what each status of such a call says of the bytes, and of what the object kept before and after it
pub record IsGiving (may : NodeOf → Letter → Type 0) (taking : NodeOf → Letter → Option NodeOf) (noting : Letter → PolicyOf → PolicyOf)
    (bytes : List ℕ) (old : Option Thing) (status : ℕ) (new : Option Thing) : Type 0 where
  pub done : status ≡ SCI_OK → ChangesBy node_in old new (λ before after. Begins bytes (HasTaken may taking noting before after))
  pub refused : status ≡ SCI_NOT_ENABLED → On node_in old (λ c. Begins bytes (λ letter. may c.node letter × (taking c.node letter ≡ None)))
  pub range : status ≡ SCI_RANGE → On node_in old (λ c. Begins bytes (λ letter. may c.node letter → ⊥))
  pub fault : SCI_FULL < status → status ≡ fault_status (fault_of bytes)
  pub change : IsChange node_in (SCI_NOT_ENABLED ∷ SCI_RANGE ∷ SCI_SHORT ∷ SCI_UNKNOWN_COMMAND ∷ SCI_BAD_OFFSET ∷ SCI_BAD_IDENTIFIER ∷ []) old status new

-- and of a call that says what the policy would do with a request
pub record IsDeciding (bytes : List ℕ) (decision : ℕ) (old : Option Thing) (status : ℕ) (new : Option Thing) : Type 0 where
  pub done : status ≡ SCI_OK
      → On node_in old (λ c. Begins bytes (λ letter. IsRequestFor c.node letter × (decision ≡ decision_number (decided c.policy c.node letter))))
  pub range : status ≡ SCI_RANGE → On node_in old (λ c. Begins bytes (λ letter. IsRequestFor c.node letter → ⊥))
  pub fault : SCI_FULL < status → status ≡ fault_status (fault_of bytes)
  pub look : IsLook node_in (SCI_RANGE ∷ SCI_SHORT ∷ SCI_UNKNOWN_COMMAND ∷ SCI_BAD_OFFSET ∷ SCI_BAD_IDENTIFIER ∷ []) old status new
