pub mod TreeUnits
pub mod RoomLaws
