pub mod PacketWords
