-- What the definitions of Text give, computed.
use Rattle.std.specs.Prelude.{◌≡◌, true, false, [], ◌∷◌, ◌++◌, replicate, codes, refl}
use Rattle.device.specs.declared.fault.Code.TheVariants.{Done, BadLabel}
use Rattle.device.specs.declared.fault.Layer.TheVariants.{None, Structure}
use Rattle.drive.specs.declared.request.Request.TheVariants.{Door, Tab, Status}
use Rattle.report.specs.Text.{answer_text, format_text, hex_text, link_text, map_text, newline, request_text, usage_text}

pub answer_done : answer_text (record { code = Done; length = 0; layer = None; sector = 0xFFFF }) ≡ codes "CODE=80 LENGTH=0 LAYER=0 SECTOR=FFFF"
answer_done = refl

pub answer_fault : answer_text (record { code = BadLabel; length = 65408; layer = Structure; sector = 0 }) ≡ codes "CODE=E1 LENGTH=65408 LAYER=3 SECTOR=0000"
answer_fault = refl

pub request_format : format_text (codes "EXAM 1" ++ 0x1F ∷ 0x7F ∷ []) ≡ codes "FORMAT ID=EXAM 1.."
request_format = refl

pub request_door : request_text (Door true) ≡ codes "DOOR OPEN"
request_door = refl

pub request_tab : request_text (Tab false) ≡ codes "TAB OFF"
request_tab = refl

pub request_status : request_text Status ≡ codes "STATUS"
request_status = refl

pub usage : usage_text (record { free = 28; used = 36; files = 0 }) ≡ codes "FREE=28 USED=36 FILES=0"
usage = refl

pub link : link_text 4 (record { bytes = replicate 128 0; back = 0xFFFF; forward = 5 }) ≡ codes "SECTOR=0004 BACK=FFFF FORWARD=0005"
link = refl

pub hex : hex_text (replicate 16 0xA5 ++ 1 ∷ 2 ∷ []) ≡ codes "0000  A5 A5 A5 A5 A5 A5 A5 A5 A5 A5 A5 A5 A5 A5 A5 A5" ++ newline ++ codes "0010  01 02" ++ newline
hex = refl

pub map_of_64 : map_text (0xFF ∷ 0xFF ∷ 0xFF ∷ 0xFF ∷ 0x3F ∷ 0 ∷ 0 ∷ 0x80 ∷ []) ≡ codes "0000  ######################################.........................#" ++ newline
map_of_64 = refl
