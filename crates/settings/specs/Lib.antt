pub mod Numberings
pub mod DigitStrings
pub mod NumberedLifts
pub mod PartLists
pub mod PartSettings
pub mod JoinedSettings
pub mod SettingsCounted
