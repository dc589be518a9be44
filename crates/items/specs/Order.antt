-- The order of lines: the environment before the first call, and a host's rows between the host and the next call.
use Rattle.std.specs.Prelude.{true, if◌then◌else◌, Some, None, Ok, Err, Option, Result}
use Rattle.items.specs.declared.faults.Malformed.{Malformed}
use Rattle.items.specs.declared.faults.Malformed.TheVariants as malformed
use Rattle.items.specs.declared.items.HostKind.{HostKind}
use Rattle.items.specs.declared.items.HostKind.TheVariants as host
use Rattle.items.specs.declared.items.Item.{Item}
use Rattle.items.specs.declared.items.Item.TheVariants as item
use Rattle.items.specs.declared.places.Class.{Class}
use Rattle.items.specs.declared.places.Class.TheVariants as class
use Rattle.items.specs.declared.places.Place.{Place}

abbrev pub class_of : Item → Class
class_of (item.Limit table limit) = class.Environment
class_of (item.Expand on) = class.Environment
class_of (item.Symbol name) = class.Environment
class_of (item.«Type» name kind) = class.Environment
class_of (item.Const name ty) = class.Environment
class_of (item.Term name kind ret args) = class.Environment
class_of (item.Source source) = class.Environment
class_of (item.Host kind) = class.Host kind
class_of (item.Row term row) = class.Row host.Measure
class_of (item.Code code ty) = class.Row host.Listed
class_of (item.Make term code args) = class.Row host.Listed
class_of (item.Lit ty literal code) = class.Row host.Listed
class_of (item.Sign term pure partial ret args) = class.Sign
class_of item.Open = class.Call
class_of (item.Converter part) = class.Call
class_of item.Close = class.Call
class_of (item.Rule part) = class.Call
class_of item.Finish = class.Call
class_of (item.Run rule values work args) = class.Call
class_of item.Dump = class.Call

-- the host that takes rows is of the kind that is wanted
abbrev pub takes : HostKind → Option HostKind → Place → Result Place Malformed
takes wanted None p = Err malformed.NoHost
takes host.Measure (Some host.Measure) p = Ok p
takes host.Measure (Some host.Listed) p = Err malformed.NoHost
takes host.Listed (Some host.Measure) p = Err malformed.NoHost
takes host.Listed (Some host.Listed) p = Ok p

abbrev pub signs : Option HostKind → Place → Result Place Malformed
signs None p = Err malformed.NoHost
signs (Some kind) p = Ok p

-- the place behind a line, if it may stand there
abbrev pub next : Place → Class → Result Place Malformed
next p class.Environment = if p.called then Err malformed.AfterCall else Ok p
next p (class.Host kind) = Ok (record { called = p.called; host = Some kind })
next p (class.Row wanted) = takes wanted p.host p
next p class.Sign = signs p.host p
next p class.Call = Ok (record { called = true; host = None })
